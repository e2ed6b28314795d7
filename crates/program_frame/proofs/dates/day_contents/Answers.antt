use Rattle.program_frame.proofs.DateWords.{day_is}
use Rattle.program_frame.proofs.dates.day_contents.Goals as goal

pub returns : goal.returns
returns c = λ t. day_is c.args.word.now t c.if-word-ne10.false c.if-word-ne45.false c.if-word-ne45-2.false
