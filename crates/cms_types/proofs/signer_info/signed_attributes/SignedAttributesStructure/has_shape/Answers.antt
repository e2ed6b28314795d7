use Rattle.std.proofs.Common.{refl}
use Rattle.std.proofs.lemmas.Grind.{merely}
use Rattle.cms_types.proofs.Unsigned.{no_signed}
use Rattle.cms_types.proofs.signer_info.signed_attributes.SignedAttributesStructure.has_shape.Goals as goal

pub returns-clause-fits : goal.returns-clause-fits
returns-clause-fits c = λ w.
    let fit = c.has_list.ensures.fits w in
    (record { element = record { element = c.args.elem.is.0; der = c.args.elem.is.1.0 }; list = fit.0; are = merely fit.1 }, refl)

pub returns-clause-unfit : goal.returns-clause-unfit
returns-clause-unfit c = λ no v is. no_signed _ v is (c.has_list.ensures.unfit no)
