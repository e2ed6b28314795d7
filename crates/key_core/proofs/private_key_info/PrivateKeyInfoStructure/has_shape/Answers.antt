use Rattle.key_core.proofs.InfoFields.{of_fields}
use Rattle.key_core.proofs.private_key_info.PrivateKeyInfoStructure.has_shape.Goals as goal

pub returns-then-is_of-clause-fits : goal.returns-then-is_of-clause-fits
returns-then-is_of-clause-fits c = λ w.
    let algorithm = c.in-Some-kind_at.ensures in
    let key = c.is_of.ensures.fits c.if-is_of.true in
    let bits = c.has_bits.ensures.fits w in
    of_fields _ _ _ _ _ _ _ c.in-Some.ensures.0 c.in-Some.ensures.1 algorithm.0 algorithm.1 algorithm.2 key.0 key.1 bits.0 bits.1
