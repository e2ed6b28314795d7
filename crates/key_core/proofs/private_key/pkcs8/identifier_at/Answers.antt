use Rattle.std.proofs.Common.{IsTrue, rules}
use Rattle.key_core.proofs.Algorithms.{identifier_lies}
use Rattle.key_core.proofs.private_key.pkcs8.identifier_at.Goals as goal

pub returns : goal.returns
returns c =
    let shape : IsTrue c.has_shape.result = search rules in
    identifier_lies _ _ c.in_ok-leaf_at.ensures (c.has_shape.ensures.fits shape)
