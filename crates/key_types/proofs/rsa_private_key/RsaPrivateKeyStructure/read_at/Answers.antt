use Rattle.std.proofs.lemmas.Result.{err_from_is_err_and}
use Rattle.der_core.specs.Facts.Lists.{list_refused}
use Rattle.key_types.proofs.RsaFields.{numbers_of}
use Rattle.key_types.proofs.rsa_private_key.RsaPrivateKeyStructure.read_at.Goals as goal

pub returns-in_err-public : goal.returns-in_err-public
returns-in_err-public c =
    let p = err_from_is_err_and c.from_residual.result c.from_residual.ensures.1 in
    rw (p.1, p.2) (list_refused _ _ _ (λ key is. (record { one = key.n; other = key.e }, (numbers_of _ _ _ _ _ _ _ _ _ c.in-Some.ensures.0 key is).public))
    c.in_err-public.ensures)

pub returns-in_err-first : goal.returns-in_err-first
returns-in_err-first c =
    let p = err_from_is_err_and c.from_residual-in_err-first.result c.from_residual-in_err-first.ensures.1 in
    rw (p.1, p.2) (list_refused _ _ _ (λ key is. (record { one = key.d; other = key.p }, (numbers_of _ _ _ _ _ _ _ _ _ c.in-Some.ensures.0 key is).first))
    c.in_err-first.ensures)

pub returns-in_err-second : goal.returns-in_err-second
returns-in_err-second c =
    let p = err_from_is_err_and c.from_residual-in_err-second.result c.from_residual-in_err-second.ensures.1 in
    rw (p.1, p.2) (list_refused _ _ _ (λ key is. (record { one = key.q; other = key.dp }, (numbers_of _ _ _ _ _ _ _ _ _ c.in-Some.ensures.0 key is).second))
    c.in_err-second.ensures)

pub returns-in_err-third : goal.returns-in_err-third
returns-in_err-third c =
    let p = err_from_is_err_and c.from_residual-in_err-third.result c.from_residual-in_err-third.ensures.1 in
    rw (p.1, p.2) (list_refused _ _ _ (λ key is. (record { one = key.dq; other = key.qinv }, (numbers_of _ _ _ _ _ _ _ _ _ c.in-Some.ensures.0 key is).third))
    c.in_err-third.ensures)
