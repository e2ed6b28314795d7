use Rattle.std.proofs.Common.{string_bytes}
use Rattle.signature_questions.specs.Ahead.{AreAhead, left_over}
use Rattle.signature_questions.proofs.WrittenLines.{AreWritten}
use Rattle.signature_questions.proofs.lines.lines_of.Given as goal

abbrev pub invariant-loop-question : goal.invariant-loop-question
invariant-loop-question l = AreWritten (AreAhead l.initial.questions) (AreAhead l.questions) (string_bytes l.lines)

abbrev pub decreases-loop-question : goal.decreases-loop-question
decreases-loop-question l = left_over l.questions
