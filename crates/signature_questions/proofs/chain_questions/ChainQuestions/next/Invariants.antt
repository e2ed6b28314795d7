use Rattle.std.proofs.Common.{◌≤◌, List, length}
use Rattle.signature_questions.specs.Ahead.{AreChainAhead}
use Rattle.signature_questions.specs.Question.{Question}
use Rattle.signature_questions.proofs.chain_questions.ChainQuestions.next.Given as goal

-- no question is about the certificates that were skipped
abbrev pub invariant-loop-parent : goal.invariant-loop-parent
invariant-loop-parent l = record {
  ahead : (qs : List Question) → AreChainAhead l.self qs → AreChainAhead l.initial.self qs;
  shorter : length l.self.parents.now ≤ length l.initial.self.parents.now;
}

abbrev pub decreases-loop-parent : goal.decreases-loop-parent
decreases-loop-parent l = length l.self.parents.now
