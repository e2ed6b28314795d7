use Rattle.std.proofs.lemmas.Result.{err_from_is_err_and}
use Rattle.key_core.proofs.Signings.{rsa_refused}
use Rattle.key_core.proofs.signature_algorithm.signing.rsa_secret.Goals as goal

pub returns-in_err-to_pkcs1-clause-answer : goal.returns-in_err-to_pkcs1-clause-answer
returns-in_err-to_pkcs1-clause-answer c =
    let p = err_from_is_err_and c.from_residual.result c.from_residual.ensures.1 in
    rw (p.1, p.2) (rsa_refused c.args.private_key.now c.in_err-to_pkcs1.field-0.0 c.in_err-to_pkcs1.ensures.answer)
