use Rattle.std.proofs.Common.{◌≤◌, List, length}
use Rattle.x509_types.specs.CertificateElements.{CertificateElements}
use Rattle.authenticode_core.specs.BagCursor.{StandsIn}
use Rattle.authenticode_core.specs.Inside.Wanted.{IsWanted}
use Rattle.authenticode_core.specs.LeftMembers.{left_members}
use Rattle.authenticode_core.specs.Indices.{HasNoPlaceBetween}
use Rattle.authenticode_core.proofs.bag.Bag.next_wanted.Given as goal

-- the cursor is in the same bag, and no certificate that it passed is wanted
abbrev pub invariant-loop-next : goal.invariant-loop-next
invariant-loop-next l = record {
  stands : (bag : List CertificateElements) → StandsIn l.initial.self bag → StandsIn l.self bag;
  shorter : length (left_members l.self.members) ≤ length (left_members l.initial.self.members);
  later : l.initial.self.place ≤ l.self.place;
  none : (bag : List CertificateElements) → StandsIn l.initial.self bag → HasNoPlaceBetween bag (IsWanted l.wanted) l.initial.self.place l.self.place;
}

abbrev pub decreases-loop-next : goal.decreases-loop-next
decreases-loop-next l = length (left_members l.self.members)
