use Rattle.std.proofs.Common.{arith}
use Rattle.std.proofs.lemmas.Str.Pattern.{split_after}
use Rattle.ca_register.proofs.Cuts.{no_space}
use Rattle.ca_register.proofs.text.cutting.cut_word.Goals as goal

pub returns-clause-only : goal.returns-clause-only
returns-clause-only c word rest is spelled =
    split_after 32 c.args.line.now word rest c.split_once.result c.split_once.ensures.cases (omega arith) spelled (no_space word is)
