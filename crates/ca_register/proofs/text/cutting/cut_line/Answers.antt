use Rattle.std.proofs.Common.{arith}
use Rattle.std.proofs.lemmas.Str.Pattern.{split_after}
use Rattle.ca_register.proofs.Cuts.{no_newline}
use Rattle.ca_register.proofs.text.cutting.cut_line.Goals as goal

pub returns-clause-only : goal.returns-clause-only
returns-clause-only c line rest is spelled =
    split_after 10 c.args.text.now line rest c.split_once.result c.split_once.ensures.cases (omega arith) spelled (no_newline line is)
