use Rattle.std.proofs.lemmas.Result.{err_from_is_err_and}
use Rattle.key_core.proofs.Unwritten.{nothing_refuses}
use Rattle.key_core.proofs.private_key_info.PrivateKeyInfoStructure.write.Goals as goal

pub returns-in_err-push_value : goal.returns-in_err-push_value
returns-in_err-push_value c =
    let p = err_from_is_err_and c.from_residual-in_err-push_value.result c.from_residual-in_err-push_value.ensures.1 in
    rw (p.1, p.2) (nothing_refuses _ _ c.in_err-push_value.ensures.answer)

pub returns-in_err-push_attributes : goal.returns-in_err-push_attributes
returns-in_err-push_attributes c =
    let p = err_from_is_err_and c.from_residual-in_err-push_attributes.result c.from_residual-in_err-push_attributes.ensures.1 in
    rw (p.1, p.2) (nothing_refuses _ _ c.in_err-push_attributes.ensures)
