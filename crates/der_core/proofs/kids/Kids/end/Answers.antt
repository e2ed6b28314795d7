use Rattle.std.proofs.lemmas.Bool.{iff_false}
use Rattle.der_core.proofs.Parts.{has_more}
use Rattle.der_core.proofs.kids.Kids.end.Goals as goal

pub returns-else-is_empty : goal.returns-else-is_empty
returns-else-is_empty c = has_more _ (λ none. iff_false c.is_empty.ensures c.if-is_empty.false none)
