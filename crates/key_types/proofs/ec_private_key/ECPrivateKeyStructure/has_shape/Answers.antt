use Rattle.std.proofs.Common.{sym, ◌∙◌}
use Rattle.key_types.proofs.ECFields.{of_parts, parts_of}
use Rattle.key_types.proofs.ec_private_key.ECPrivateKeyStructure.has_shape.Goals.{then-has_shape, else-has_shape}
use Rattle.key_types.proofs.ec_private_key.ECPrivateKeyStructure.has_shape.Goals as goal

pub returns-then-has_option-clause-fits : goal.returns-then-has_option-clause-fits
returns-then-has_option-clause-fits c = λ w.
    elim c.if-has_shape.branch [
      | then-has_shape v ↦
          let key = c.has_shape.ensures.fits v.if-has_shape.true in
          let curve = v.has_option.ensures.fits (sym v.value-is ∙ c.if-has_option.true) in
          let bits = c.has_option-then-has_option.ensures.fits w in
          of_parts _ _ _ _ c.in-Some.ensures key.0 key.1 curve.0 curve.1 bits.0 bits.1
      | else-has_shape v ↦ absurd cc (v.value-is, c.if-has_option.true)
    ]

pub returns-then-has_option-clause-unfit : goal.returns-then-has_option-clause-unfit
returns-then-has_option-clause-unfit c = λ no key is. c.has_option-then-has_option.ensures.unfit no key.public_key (parts_of _ _ _ _ c.in-Some.ensures key is).2

pub returns-else-has_option-clause-unfit : goal.returns-else-has_option-clause-unfit
returns-else-has_option-clause-unfit c = λ no key is.
    let parts = parts_of _ _ _ _ c.in-Some.ensures key is in
    elim c.if-has_shape.branch [
      | then-has_shape v ↦ v.has_option.ensures.unfit (sym v.value-is ∙ no) key.parameters parts.1
      | else-has_shape v ↦ c.has_shape.ensures.unfit v.if-has_shape.false key.private_key parts.0
    ]
