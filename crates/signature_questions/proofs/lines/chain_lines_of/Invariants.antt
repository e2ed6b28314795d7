use Rattle.std.proofs.Common.{string_bytes, length}
use Rattle.signature_questions.specs.Ahead.{AreChainAhead}
use Rattle.signature_questions.proofs.WrittenLines.{AreWritten}
use Rattle.signature_questions.proofs.lines.chain_lines_of.Given as goal

abbrev pub invariant-loop-question : goal.invariant-loop-question
invariant-loop-question l = AreWritten (AreChainAhead l.initial.questions) (AreChainAhead l.questions) (string_bytes l.lines)

abbrev pub decreases-loop-question : goal.decreases-loop-question
decreases-loop-question l = length l.questions.parents.now
