use Rattle.std.proofs.Common.{◌+◌, ap, refl, arith}
use Rattle.signature_questions.specs.Ahead.{left_links}
use Rattle.signature_questions.specs.Borrowed.{asked}
use Rattle.signature_questions.proofs.Walk.{fewer_left, past_the_end, path_is_next, signer_is_first, token_answers, token_fewer}
use Rattle.signature_questions.proofs.questions.Questions.next.Goals as goal

pub returns-in-Some-clause-next : goal.returns-in-Some-clause-next
returns-in-Some-clause-next c = λ others more. signer_is_first c.args.self.now _ c.in-Some.question c.in-Some.is refl refl refl others more

pub returns-in-Some-clause-fewer : goal.returns-in-Some-clause-fewer
returns-in-Some-clause-fewer c =
    fewer_left c.args.self.now.signer c.in-Some.question (left_links c.args.self.now.path + left_links c.args.self.now.token) c.in-Some.is

pub returns-in-Some-next_of-clause-next : goal.returns-in-Some-next_of-clause-next
returns-in-Some-next_of-clause-next c = λ others more.
    path_is_next c.args.self.now _ (asked c.in-Some-next_of.question) c.in_default.is c.in_default.is refl c.in-Some-next_of.ensures.next others more

pub returns-in-Some-next_of-clause-fewer : goal.returns-in-Some-next_of-clause-fewer
returns-in-Some-next_of-clause-fewer c = omega (arith, c.in-Some-next_of.ensures.fewer)

pub returns-clause-next : goal.returns-clause-next
returns-clause-next c =
    token_answers c.args.self.now _ _ c.in_default.is c.in_default.is c.in_default-next_of.ensures.next (c.in_default-next_of.ensures.ended refl)
    c.next_of-2.ensures.next

pub returns-clause-fewer : goal.returns-clause-fewer
returns-clause-fewer c = token_fewer _ _ _ _ _ _ (ap left_links (c.in_default-next_of.ensures.ended refl)) c.next_of-2.ensures.fewer

pub returns-clause-ended : goal.returns-clause-ended
returns-clause-ended c none = past_the_end _ c.in_default.is (c.in_default-next_of.ensures.ended refl) (c.next_of-2.ensures.ended none)
