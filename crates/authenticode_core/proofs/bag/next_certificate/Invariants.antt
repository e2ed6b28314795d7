use Rattle.std.proofs.Common.{◌≤◌, List, length}
use Rattle.x509_types.specs.CertificateElements.{CertificateElements}
use Rattle.authenticode_core.specs.CertificateBag.{IsBag}
use Rattle.authenticode_core.proofs.bag.next_certificate.Given as goal

-- the bag of all is the bag of the rest
abbrev pub invariant-loop-elem : goal.invariant-loop-elem
invariant-loop-elem l = record {
  enough : (bag : List CertificateElements) → IsBag l.members.are.0 bag → IsBag l.initial.members.are.0 bag;
  needed : (bag : List CertificateElements) → IsBag l.initial.members.are.0 bag → IsBag l.members.are.0 bag;
  shorter : length l.members.are.0 ≤ length l.initial.members.are.0;
}

abbrev pub decreases-loop-elem : goal.decreases-loop-elem
decreases-loop-elem l = length l.members.are.0
