use Rattle.std.proofs.Common.{◌∷◌, [], ap, ◌∙◌}
use Rattle.der_core.specs.DerElement.{DerElement}
use Rattle.der_core.specs.Elements.{sequence}
use Rattle.asn1_types.specs.Elements.{integer}
use Rattle.key_types.proofs.public_key.RsaPublicKeyStructure.has_shape.Goals as goal

pub returns-then-has_shape-clause-fits : goal.returns-then-has_shape-clause-fits
returns-then-has_shape-clause-fits c = λ w.
    let modulus = c.has_shape.ensures.fits c.if-has_shape.true in
    let exponent = c.has_shape-then-has_shape.ensures.fits w in (
      record { modulus = modulus.0; public_exponent = exponent.0 },
      c.in-Some.ensures ∙ ap (λ (e : DerElement). sequence (e ∷ c.in-Some.exponent.is.0 ∷ [])) modulus.1
          ∙ ap (λ (e : DerElement). sequence (integer modulus.0 ∷ e ∷ [])) exponent.1,
    )
