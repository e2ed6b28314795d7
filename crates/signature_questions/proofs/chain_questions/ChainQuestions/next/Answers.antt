use Rattle.std.proofs.Common.{Some, None, arith}
use Rattle.signature_questions.specs.Borrowed.{asked}
use Rattle.signature_questions.proofs.Walk.{chain_ends, chain_goes_on_with}
use Rattle.signature_questions.proofs.chain_questions.ChainQuestions.next.Goals as goal

pub loop-parent-preserved : goal.loop-parent-preserved
loop-parent-preserved c = record {
  ahead = λ qs more.
      c.loop-parent.invariant.ahead qs
      (chain_goes_on_with _ _ _ _ c.in-Some.ensures.cases.0 _ _ c.view.ensures.elements c.view-in-Some.ensures.elements None
      c.in_default-question.ensures qs more);
  shorter = omega (arith, c.in-Some.ensures.cases.1, c.loop-parent.invariant.shorter);
}

pub returns-in-Some-question-clause-next : goal.returns-in-Some-question-clause-next
returns-in-Some-question-clause-next c = λ others more.
    c.loop-parent.invariant.ahead _
    (chain_goes_on_with _ _ _ _ c.in-Some.ensures.cases.0 _ _ c.view.ensures.elements c.view-in-Some.ensures.elements (Some (asked c.in-Some-question.question))
    c.in-Some-question.ensures others more)

pub returns-in-Some-question-clause-fewer : goal.returns-in-Some-question-clause-fewer
returns-in-Some-question-clause-fewer c = omega (arith, c.in-Some.ensures.cases.1, c.loop-parent.invariant.shorter)

pub returns-clause-next : goal.returns-clause-next
returns-clause-next c = c.loop-parent.invariant.ahead _ (chain_ends _ _ c.in_default.ensures.cases)

pub returns-clause-ended : goal.returns-clause-ended
returns-clause-ended c none = chain_ends _ _ c.in_default.ensures.cases
