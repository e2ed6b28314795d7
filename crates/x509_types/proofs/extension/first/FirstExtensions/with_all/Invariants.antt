use Rattle.std.proofs.Common.{List, length}
use Rattle.der_core.specs.DerElement.{DerElement}
use Rattle.x509_types.specs.FoundExtensions.{AreFound}
use Rattle.x509_types.proofs.extension.first.FirstExtensions.with_all.Given as goal

-- what is the first of all before the loop still is
abbrev pub invariant-loop-kid : goal.invariant-loop-kid
invariant-loop-kid l = (all : List DerElement) → AreFound all l.initial.kids.are.0 l.initial.self → AreFound all l.kids.are.0 l.self

abbrev pub decreases-loop-kid : goal.decreases-loop-kid
decreases-loop-kid l = length l.kids.are.0
