use Rattle.key_types.proofs.Parameters.{of_fields}
use Rattle.std.proofs.Common.{rules}
use Rattle.key_types.proofs.key_kind.KeyKind.at.Goals as goal

pub returns : goal.returns
returns c =
    let fit = c.has_shape.ensures.fits (search rules) in
    (fit.0, fit.1, of_fields _ _ _ _ fit.0 _ c.in_ok-fields.ensures c.in_ok-oid.ensures fit.1 c.in_ok-with.ensures)
