use Rattle.pe_core.proofs.Layouts.{unbroken, once}
use Rattle.pe_core.proofs.laws.layout_has_one_answer.Goals as goal

pub returns : goal.returns
returns c = record { unbroken = unbroken; once = once }
