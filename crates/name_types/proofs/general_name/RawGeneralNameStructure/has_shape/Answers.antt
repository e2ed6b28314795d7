use Rattle.std.proofs.Common.{ap, ◌∙◌}
use Rattle.der_core.specs.DerElement.{Primitive}
use Rattle.der_core.specs.Encoding.{form_bit}
use Rattle.name_types.specs.declared.general_name.RawGeneralName.TheVariants as forms
use Rattle.name_types.proofs.Elements.{primitive_at}
use Rattle.name_types.proofs.general_name.RawGeneralNameStructure.has_shape.Goals as goal

pub returns-in-160-clause-fits : goal.returns-in-160-clause-fits
returns-in-160-clause-fits c = λ w. let fit = c.has_shape.ensures.fits w in (forms.OtherName fit.0, fit.1)

pub returns-in-129-clause-fits : goal.returns-in-129-clause-fits
returns-in-129-clause-fits c = λ w. let fit = c.has_text.ensures.fits w in (forms.Rfc822Name fit.0, fit.1)

pub returns-in-130-clause-fits : goal.returns-in-130-clause-fits
returns-in-130-clause-fits c = λ w. let fit = c.has_text-in-130.ensures.fits w in (forms.DnsName fit.0, fit.1)

pub returns-in-164-clause-fits : goal.returns-in-164-clause-fits
returns-in-164-clause-fits c = λ w. let fit = c.has_directory_name.ensures.fits w in (forms.DirectoryName fit.0, fit.1)

pub returns-in-165-clause-fits : goal.returns-in-165-clause-fits
returns-in-165-clause-fits c = λ w. let fit = c.has_shape-in-165.ensures.fits w in (forms.EdiPartyName fit.0, fit.1)

pub returns-in-134-clause-fits : goal.returns-in-134-clause-fits
returns-in-134-clause-fits c = λ w. let fit = c.has_text-in-134.ensures.fits w in (forms.Uri fit.0, fit.1)

pub returns-in-135-clause-fits : goal.returns-in-135-clause-fits
returns-in-135-clause-fits c = λ w.
    let content = c.args.elem.content.now in
    let here = primitive_at _ _ content _ c.args.elem.is.1 (ap form_bit c.in-135.is) in
    (forms.IpAddress content, here ∙ ap (λ tag. Primitive tag content) c.in-135.is)

pub returns-in-136-clause-fits : goal.returns-in-136-clause-fits
returns-in-136-clause-fits c = λ w. let fit = c.has_identifier.ensures.fits w in (forms.RegisteredId fit.0, fit.1)
