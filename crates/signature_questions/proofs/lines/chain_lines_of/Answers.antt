use Rattle.signature_questions.specs.Ahead.{AreChainAhead}
use Rattle.signature_questions.proofs.WrittenLines.{all_written, more_written, none_written}
use Rattle.signature_questions.proofs.lines.chain_lines_of.Goals as goal

pub loop-question-init : goal.loop-question-init
loop-question-init c = none_written _ _ c.new-lines.ensures.bytes

pub loop-question-preserved : goal.loop-question-preserved
loop-question-preserved c = more_written _ _ _ _ _ _ c.loop-question.invariant c.in-Some.ensures.next c.in_ok-write_line.ensures

pub returns : goal.returns
returns c = all_written (AreChainAhead c.args.questions) (AreChainAhead c.loop-question.questions) _ c.loop-question.invariant c.in_default.ensures.next
