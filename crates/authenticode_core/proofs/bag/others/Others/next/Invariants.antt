use Rattle.std.proofs.Common.{◌≤◌, ℕ, List, length}
use Rattle.x509_types.specs.CertificateElements.{CertificateElements}
use Rattle.authenticode_core.specs.OthersCursor.{AreLeft, unread_members}
use Rattle.authenticode_core.proofs.bag.others.Others.next.Given as goal

-- the skipped certificates had the subject, so the same indices are left
abbrev pub invariant-loop-next : goal.invariant-loop-next
invariant-loop-next l = record {
  left : (bag : List CertificateElements) (places : List ℕ) → AreLeft l.initial.self bag places → AreLeft l.self bag places;
  shorter : length (unread_members l.self.source) ≤ length (unread_members l.initial.self.source);
}

abbrev pub decreases-loop-next : goal.decreases-loop-next
decreases-loop-next l = length (unread_members l.self.source)
