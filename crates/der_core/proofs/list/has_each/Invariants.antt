use Rattle.std.proofs.Common.{length}
use Rattle.der_core.specs.Each.{AreEach}
use Rattle.der_core.specs.Structure.{Fits}
use Rattle.der_core.proofs.list.has_each.Given as goal

-- the elements encode values exactly if those that are left do
abbrev pub invariant-loop-kid : goal.invariant-loop-kid
invariant-loop-kid g l = record {
  enough : Fits (AreEach g.T.Structure.spells) l.kids.are.0 → Fits (AreEach g.T.Structure.spells) l.initial.kids.are.0;
  needed : Fits (AreEach g.T.Structure.spells) l.initial.kids.are.0 → Fits (AreEach g.T.Structure.spells) l.kids.are.0;
}

abbrev pub decreases-loop-kid : goal.decreases-loop-kid
decreases-loop-kid g l = length l.kids.are.0
