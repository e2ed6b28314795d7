use Rattle.std.proofs.Common.{◌≡◌, ◌+◌, ◌<◌, ◌^◌, List, length}
use Rattle.x509_types.specs.CertificateElements.{CertificateElements}
use Rattle.authenticode_core.specs.CertificateBag.{IsBag}
use Rattle.authenticode_core.specs.LeftMembers.{left_members}
use Rattle.authenticode_core.proofs.bag.Bag.count.Given as goal

-- the bag of the rest, with as many certificates before it as were counted, is the bag of all
abbrev pub invariant-loop-next : goal.invariant-loop-next
invariant-loop-next l = record {
  all : (others : List CertificateElements) → IsBag l.members.are.0 others
      → (bag : List CertificateElements) × IsBag (left_members l.self.members) bag × (l.count + length others ≡ length bag);
  counted : l.count + length l.members.are.0 < 2 ^ 32;
}

abbrev pub decreases-loop-next : goal.decreases-loop-next
decreases-loop-next l = length l.members.are.0
