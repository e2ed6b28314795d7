use Rattle.std.proofs.lemmas.Result.{err_from_is_err_and}
use Rattle.der_core.specs.Facts.Lists.{list_refused}
use Rattle.key_core.proofs.InfoFields.{point_of}
use Rattle.key_core.proofs.private_key_info.PrivateKeyInfoStructure.read_at.Goals as goal

pub returns-in_err-public_key : goal.returns-in_err-public_key
returns-in_err-public_key c =
    let p = err_from_is_err_and c.from_residual-in_err-public_key.result c.from_residual-in_err-public_key.ensures.1 in
    rw (p.1, p.2) (list_refused _ _ _ (λ info is. (info.public_key, point_of _ _ _ _ _ _ c.in-Some.ensures.0 c.in-Some.ensures.1 info is))
    c.in_err-public_key.ensures)
