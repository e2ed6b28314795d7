use Rattle.authenticode_core.proofs.DigestNames.{unidentified, unnamed, names}
use Rattle.authenticode_core.proofs.digest.digest_named.Goals as goal

pub returns-in_err-oid : goal.returns-in_err-oid
returns-in_err-oid c = rw c.from_residual.ensures (λ element kept. unidentified element (c.in_err-oid.ensures element kept))

pub returns-in_err-variant : goal.returns-in_err-variant
returns-in_err-variant c =
    rw c.from_residual-in_err-variant.ensures (λ element kept. unnamed element _ (c.in_ok-oid.ensures element kept) c.in_err-variant.ensures)

pub returns : goal.returns
returns c = λ element kept. names element _ _ _ (c.in_ok-oid.ensures element kept) c.in_ok-variant.ensures c.hash.ensures
