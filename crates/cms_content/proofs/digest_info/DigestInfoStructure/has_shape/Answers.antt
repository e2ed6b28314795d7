use Rattle.std.proofs.Common.{◌∷◌, [], ap, ◌∙◌}
use Rattle.der_core.specs.DerElement.{DerElement}
use Rattle.der_core.specs.Elements.{sequence}
use Rattle.key_types.specs.AlgorithmIdentifier.{algorithm_identifier}
use Rattle.cms_content.proofs.digest_info.DigestInfoStructure.has_shape.Goals as goal

pub returns-then-has_shape-clause-fits : goal.returns-then-has_shape-clause-fits
returns-then-has_shape-clause-fits c = λ w.
    let oid = c.has_shape.ensures.fits c.if-has_shape.true in
    let digest = c.has_shape-then-has_shape.ensures.fits w in (
      record { oid = oid.0; digest = digest.0 },
      c.in-Some.ensures ∙ ap (λ (e : DerElement). sequence (e ∷ c.in-Some.digest.is.0 ∷ [])) oid.1
          ∙ ap (λ (e : DerElement). sequence (algorithm_identifier oid.0 ∷ e ∷ [])) digest.1,
    )
