use Rattle.std.proofs.Common.{rules}
use Rattle.std.proofs.lemmas.Bool.{iff_false}
use Rattle.der_core.proofs.InOctets.{kids_there, kids_are, no_kids_there}
use Rattle.der_core.proofs.kids.Kids.within.Goals as goal

pub invariant_of-result : goal.invariant_of-result
invariant_of-result c = record { are = kids_there _ _ _ c.args.elem.is (c.is_constructed.ensures.0 c.if-is_constructed.true) }

pub returns-then-is_constructed : goal.returns-then-is_constructed
returns-then-is_constructed c = kids_are _ _ _ _ _ c.args.elem.is.1 (c.is_constructed.ensures.0 c.if-is_constructed.true) (search rules)

pub returns-else-is_constructed : goal.returns-else-is_constructed
returns-else-is_constructed c = no_kids_there _ _ _ c.args.elem.is (iff_false c.is_constructed.ensures c.if-is_constructed.false)
