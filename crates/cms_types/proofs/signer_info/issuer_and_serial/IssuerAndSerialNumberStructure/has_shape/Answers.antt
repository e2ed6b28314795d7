use Rattle.std.proofs.Common.{◌∷◌, [], ap, ◌∙◌}
use Rattle.der_core.specs.DerElement.{DerElement}
use Rattle.der_core.specs.Elements.{sequence}
use Rattle.name_types.specs.Name.{name}
use Rattle.cms_types.proofs.signer_info.issuer_and_serial.IssuerAndSerialNumberStructure.has_shape.Goals as goal

pub returns-then-has_shape-clause-fits : goal.returns-then-has_shape-clause-fits
returns-then-has_shape-clause-fits c = λ w.
    let issuer = c.has_shape.ensures.fits c.if-has_shape.true in
    let serial = c.has_shape-then-has_shape.ensures.fits w in (
      record { issuer = issuer.0; serial_number = serial.0 },
      c.in-Some.ensures ∙ ap (λ (e : DerElement). sequence (e ∷ c.in-Some.serial_number.is.0 ∷ [])) issuer.1
          ∙ ap (λ (e : DerElement). sequence (name issuer.0 ∷ e ∷ [])) serial.1,
    )
