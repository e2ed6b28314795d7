use Rattle.std.proofs.lemmas.Result.{err_from_is_err_and}
use Rattle.der_core.specs.Facts.Lists.{list_refused}
use Rattle.key_types.proofs.ECFields.{parts_of}
use Rattle.key_types.proofs.ec_private_key.ECPrivateKeyStructure.read_at.Goals as goal

pub returns-in_err-parameters : goal.returns-in_err-parameters
returns-in_err-parameters c =
    let p = err_from_is_err_and c.from_residual.result c.from_residual.ensures.1 in
    rw (p.1, p.2) (list_refused _ _ _ (λ key is. (key.parameters, (parts_of _ _ _ _ c.in-Some.ensures key is).1)) c.in_err-parameters.ensures)

pub returns-in_err-public_key : goal.returns-in_err-public_key
returns-in_err-public_key c =
    let p = err_from_is_err_and c.from_residual-in_err-public_key.result c.from_residual-in_err-public_key.ensures.1 in
    rw (p.1, p.2) (list_refused _ _ _ (λ key is. (key.public_key, (parts_of _ _ _ _ c.in-Some.ensures key is).2)) c.in_err-public_key.ensures)
