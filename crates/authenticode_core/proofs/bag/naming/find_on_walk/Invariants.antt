use Rattle.std.proofs.Common.{List, length}
use Rattle.der_core.specs.DerElement.{DerElement}
use Rattle.x509_types.specs.CertificateElements.{CertificateElements}
use Rattle.authenticode_core.specs.CertificateBag.{IsBag}
use Rattle.authenticode_core.specs.LeftMembers.{left_members}
use Rattle.authenticode_core.specs.WalkCursor.{LooksFrom}
use Rattle.authenticode_core.proofs.PassedIndices.{Passed}
use Rattle.authenticode_core.proofs.bag.naming.find_on_walk.Given as goal

-- a bag of the rest is the end of one of all, and what was passed is known
abbrev pub invariant-loop-next : goal.invariant-loop-next
invariant-loop-next l = record {
  begun : (others : List CertificateElements) → IsBag (left_members l.walk.bag.members) others
      → (bag : List CertificateElements) × IsBag (left_members l.initial.walk.bag.members) bag;
  passed : (bag : List CertificateElements) (subject : DerElement) → LooksFrom l.initial.walk bag 0 subject → Passed bag subject l.wanted l.walk l.found l.asks;
}

abbrev pub decreases-loop-next : goal.decreases-loop-next
decreases-loop-next l = length (left_members l.walk.bag.members)
