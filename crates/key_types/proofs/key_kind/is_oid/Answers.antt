use Rattle.key_types.proofs.Parameters.{oid_fits, oid_unfit, decided}
use Rattle.key_types.proofs.key_kind.is_oid.Goals as goal

pub returns : goal.returns
returns c = (
  λ t. let fit = c.has_shape.ensures.fits t in oid_fits _ fit.0 fit.1,
  λ oid. decided _ (λ no. oid_unfit _ (c.has_shape.ensures.unfit no) oid),
)
