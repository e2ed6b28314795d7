use Rattle.std.proofs.Common.{◌∙◌}
use Rattle.std.proofs.lemmas.Result.{err_from_is_err_and}
use Rattle.authenticode_signature.proofs.Verdicts.{answered_behind, one_verdict, unencodable}
use Rattle.authenticode_signature.specs.Pkcs7.{fields_of, written}
use Rattle.authenticode_signature.proofs.validator.AuthenticodeValidator.verify.Goals as goal

pub returns-in_err-octets-clause-answer : goal.returns-in_err-octets-clause-answer
returns-in_err-octets-clause-answer g c =
    let signed = c.args.self.now.signature.now.0 in
    let p = err_from_is_err_and c.from_residual.result c.from_residual.ensures.1 in
    rw (p.1, p.2) (unencodable (g.S.Scheme.judge c.args.scheme.now) c.args.self.now.policy (written signed) (fields_of signed)
    c.in_err-octets.field-0.0 c.in_err-octets.ensures)

pub returns-in_err-octets-clause-only : goal.returns-in_err-octets-clause-only
returns-in_err-octets-clause-only g c = λ other answer.
    let signed = c.args.self.now.signature.now.0 in
    one_verdict (g.S.Scheme.judge c.args.scheme.now) c.args.self.now.policy (written signed) (fields_of signed) c.from_residual.result other
    (returns-in_err-octets-clause-answer g c) answer

pub check_octets-requires : goal.check_octets-requires
check_octets-requires g c = (c.args.self.now.signature.now.0, (c.in_ok-octets.ensures.1, c.deref.ensures.value ∙ c.in_ok-octets.ensures.0))

pub returns-clause-answer : goal.returns-clause-answer
returns-clause-answer g c =
    let signed = c.args.self.now.signature.now.0 in
    answered_behind (g.S.Scheme.judge c.args.scheme.now) c.args.self.now.policy (written signed) (fields_of signed)
    c.check_octets.result c.in_ok-octets.ensures.1
    (c.check_octets.ensures.answer signed (c.in_ok-octets.ensures.1, c.deref.ensures.value ∙ c.in_ok-octets.ensures.0))

pub returns-clause-only : goal.returns-clause-only
returns-clause-only g c = λ other answer.
    let signed = c.args.self.now.signature.now.0 in
    one_verdict (g.S.Scheme.judge c.args.scheme.now) c.args.self.now.policy (written signed) (fields_of signed) c.check_octets.result other
    (returns-clause-answer g c) answer
