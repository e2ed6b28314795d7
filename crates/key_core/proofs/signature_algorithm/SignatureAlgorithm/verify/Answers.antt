use Rattle.std.proofs.lemmas.Result.{err_from_is_err_and}
use Rattle.key_core.proofs.Verifications.{early}
use Rattle.key_core.proofs.signature_algorithm.SignatureAlgorithm.verify.Goals as goal

pub returns-in_err-verdict-clause-answer : goal.returns-in_err-verdict-clause-answer
returns-in_err-verdict-clause-answer g c =
    let p = err_from_is_err_and c.from_residual.result c.from_residual.ensures.1 in
    rw (p.1, p.2) (early (g.S.Scheme.judge c.args.scheme.now) c.args.self c.args.public_key.now.info c.args.msg.now c.args.signature.now
    c.in_err-verdict.field-0.0 c.in_err-verdict.ensures.answer)
