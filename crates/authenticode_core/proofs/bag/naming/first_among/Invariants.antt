use Rattle.std.proofs.Common.{List, length}
use Rattle.x509_types.specs.CertificateElements.{CertificateElements}
use Rattle.authenticode_core.specs.CertificateBag.{IsBag}
use Rattle.authenticode_core.specs.Inside.Wanted.{IsNamedBy}
use Rattle.authenticode_core.proofs.NamedMembers.{Unnamed}
use Rattle.authenticode_core.proofs.bag.naming.first_among.Given as goal

-- none of the passed members has this issuer and serial number
abbrev pub invariant-loop-member : goal.invariant-loop-member
invariant-loop-member l = (bag : List CertificateElements) → IsBag l.initial.members.are.0 bag
    → Unnamed l.members.are.0 bag (IsNamedBy l.issuer l.serial_number)

abbrev pub decreases-loop-member : goal.decreases-loop-member
decreases-loop-member l = length l.members.are.0
