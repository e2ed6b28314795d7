use Rattle.std.proofs.Common.{Err, ap}
use Rattle.std.proofs.lemmas.Result.{err_from_is_err_and}
use Rattle.authenticode_signature.specs.BuilderParts.{given_of}
use Rattle.authenticode_signature.specs.Pkcs7.{fields_of}
use Rattle.authenticode_signature.proofs.BuilderSteps.{built_as, not_built, not_given}
use Rattle.authenticode_signature.proofs.GivenErrors.{not_returned, returned_once}
use Rattle.authenticode_signature.proofs.builder.AuthenticodeSignatureBuilder.signature.Goals as goal

pub returns-in_err-given-clause-answer : goal.returns-in_err-given-clause-answer
returns-in_err-given-clause-answer g c =
    let p = err_from_is_err_and c.from_residual.result c.from_residual.ensures.1 in
    rw (p.1, p.2) (not_given (g.S.Scheme.signs c.args.scheme.now) c.args.self.now c.in_err-given.field-0.0 c.in_err-given.ensures)

pub returns-in_err-built-clause-answer : goal.returns-in_err-built-clause-answer
returns-in_err-built-clause-answer g c =
    let p = err_from_is_err_and c.from_residual-in_err-built.result c.from_residual-in_err-built.ensures.1 in
    let given = c.in_ok-given.ensures in
    rw (p.1, p.2) (not_built (g.S.Scheme.signs c.args.scheme.now) c.args.self.now (given_of c.in_ok-given.given)
    c.in_err-built.field-0.0 given.0 given.1 c.in_err-built.ensures)

pub returns-clause-answer : goal.returns-clause-answer
returns-clause-answer g c =
    let given = c.in_ok-given.ensures in
    let built = c.in_ok-built.ensures in
    built_as (g.S.Scheme.judge c.args.scheme.now) (g.S.Scheme.signs c.args.scheme.now) (g.S.Scheme.pair c.args.scheme.now) c.args.self.now
    (given_of c.in_ok-given.given) (fields_of c.in_ok-built.built) given.0 given.1 built.0 built.1

pub returns-in_err-given-clause-refused : goal.returns-in_err-given-clause-refused
returns-in_err-given-clause-refused g c = λ e first.
    let p = err_from_is_err_and c.from_residual.result c.from_residual.ensures.1 in
    rw (p.1, p.2) (ap Err (returned_once c.args.self.now c.in_err-given.field-0.0 e c.in_err-given.ensures first))

pub returns-in_err-built-clause-refused : goal.returns-in_err-built-clause-refused
returns-in_err-built-clause-refused g c = λ e first. absurd (not_returned c.args.self.now e c.in_ok-given.ensures.1 first)

pub returns-clause-refused : goal.returns-clause-refused
returns-clause-refused g c = λ e first. absurd (not_returned c.args.self.now e c.in_ok-given.ensures.1 first)
