use Rattle.std.proofs.Common.{◌<◌, length}
use Rattle.demo_core.proofs.Ancestors.{IsWalked}
use Rattle.demo_core.proofs.acceptance.ancestors_of.Given as goal

-- the walk so far
abbrev pub invariant-loop-issuer : goal.invariant-loop-issuer
invariant-loop-issuer l = record {
  within : l.at < length l.steps;
  walked : IsWalked l.steps l.certificates l.index l.at l.parents.items;
}

abbrev pub decreases-loop-issuer : goal.decreases-loop-issuer
decreases-loop-issuer l = l.at
