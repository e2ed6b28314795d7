use Rattle.ca_register.proofs.Texts.{texts_are_ascii}
use Rattle.ca_register.proofs.text.reading.lines_of.Goals as goal

pub returns-in-None-clause-stopped : goal.returns-in-None-clause-stopped
returns-in-None-clause-stopped c = texts_are_ascii c.args.text.now c.in-None.ensures

pub returns-in-None-clause-only : goal.returns-in-None-clause-only
returns-in-None-clause-only c lines is = absurd (texts_are_ascii c.args.text.now c.in-None.ensures lines is)
