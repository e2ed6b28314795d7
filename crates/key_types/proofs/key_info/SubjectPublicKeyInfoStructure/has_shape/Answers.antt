use Rattle.std.proofs.Common.{◌∷◌, [], ap, sym, subst, ◌∙◌}
use Rattle.der_core.specs.DerElement.{DerElement}
use Rattle.der_core.specs.Elements.{sequence}
use Rattle.key_types.specs.AlgorithmIdentifier.{algorithm_identifier}
use Rattle.key_types.specs.KeyKind.{IsAlgorithmOf}
use Rattle.key_types.specs.declared.key_kind.KeyKind.{KeyKind}
use Rattle.key_types.proofs.key_info.SubjectPublicKeyInfoStructure.has_shape.Goals as goal

pub returns-in-Some-at-clause-fits : goal.returns-in-Some-at-clause-fits
returns-in-Some-at-clause-fits c = λ w.
    let a = c.in-Some-at.ensures in
    let k = c.has_shape_of.ensures.fits w in (
      record { algorithm = a.0; subject_public_key = k.0; fits = subst (λ (kind : KeyKind). IsAlgorithmOf kind a.0) (sym k.1.0) a.2 },
      (
        c.in-Some.ensures ∙ ap (λ (e : DerElement). sequence (e ∷ c.in-Some.key.is.0 ∷ [])) a.1
            ∙ ap (λ (e : DerElement). sequence (algorithm_identifier a.0 ∷ e ∷ [])) k.1.1.0,
        k.1.1.1,
      ),
    )
