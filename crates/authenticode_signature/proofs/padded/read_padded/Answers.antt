use Rattle.std.proofs.Common.{Err, ap}
use Rattle.std.proofs.lemmas.Result.{err_from_is_err_and}
use Rattle.authenticode_signature.proofs.Padding.{none_for, padded_value, shapeless_for, unread_for}
use Rattle.authenticode_signature.proofs.padded.read_padded.Goals as goal

pub returns-in_err-elem-clause-refused : goal.returns-in_err-elem-clause-refused
returns-in_err-elem-clause-refused c = λ source cause.
    let p = err_from_is_err_and c.from_residual.result c.from_residual.ensures.1 in
    rw (p.1, p.2) (ap Err (unread_for c.args.octets.now c.in_err-elem.field-0.0 source c.in_err-elem.ensures cause))

pub returns-in_default-clause-refused : goal.returns-in_default-clause-refused
returns-in_default-clause-refused c = λ source cause. ap Err (shapeless_for c.args.octets.now _ source c.in_ok-elem.ensures cause)

pub returns-clause-answer : goal.returns-clause-answer
returns-clause-answer c =
    let view = c.in-Some.ensures in
    padded_value c.args.octets.now _ view.value c.read_at.result c.in_ok-elem.ensures view.spelled c.read_at.ensures

pub returns-clause-refused : goal.returns-clause-refused
returns-clause-refused c = λ source cause.
    let view = c.in-Some.ensures in
    absurd (none_for c.args.octets.now _ view.value source c.in_ok-elem.ensures view.spelled cause)
