use Rattle.std.proofs.Common.{◌∷◌, []}
use Rattle.der_core.proofs.kids.Kids.next_default_false.Goals as goal

pub returns : goal.returns
returns c = record { flag = c.in-Some.elem.is.0 ∷ []; is = c.in_ok-b.ensures; are = c.in-Some.ensures.0; once = λ none. absurd cc }
