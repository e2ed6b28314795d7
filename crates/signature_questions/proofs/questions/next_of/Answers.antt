use Rattle.signature_questions.proofs.Walk.{ahead_of, fewer_of, nothing_ahead}
use Rattle.signature_questions.proofs.questions.next_of.Goals as goal

pub returns-in_err-cursor-clause-next : goal.returns-in_err-cursor-clause-next
returns-in_err-cursor-clause-next c = rw c.from_residual.ensures (nothing_ahead c.args.links.now c.in_err-cursor.was)

pub returns-in_default-clause-next : goal.returns-in_default-clause-next
returns-in_default-clause-next c = ahead_of c.args.links.now c.in_ok-cursor.cursor c.in_ok-cursor.was _ c.in_default.ensures.next

pub returns-clause-next : goal.returns-clause-next
returns-clause-next c = λ others more. ahead_of c.args.links.now c.in_ok-cursor.cursor c.in_ok-cursor.was _ (c.in-Some.ensures.next others more)

pub returns-clause-fewer : goal.returns-clause-fewer
returns-clause-fewer c = fewer_of c.args.links.now c.in_ok-cursor.cursor c.next.new.self c.in_ok-cursor.was c.in-Some.ensures.fewer
