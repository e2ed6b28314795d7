use Rattle.std.proofs.Common.{◌≡◌, ℕ, List, length}
use Rattle.der_core.specs.DerElement.{DerElement}
use Rattle.der_core.specs.Encoding.{encoding}
use Rattle.x509_types.specs.CertificateElements.{CertificateElements}
use Rattle.authenticode_core.specs.OthersCursor.{GivesPlaces, unread_members}
use Rattle.authenticode_core.proofs.LastAuthority.{NamedSoFar}
use Rattle.authenticode_core.proofs.authority.last_name.Given as goal

-- the name is that after the indexes so far, and those of the others are left
abbrev pub invariant-loop-next : goal.invariant-loop-next
invariant-loop-next l = (bag : List CertificateElements) (places : List ℕ) (before : DerElement) → GivesPlaces l.initial.certificates bag places
    → l.name ≡ encoding before → NamedSoFar bag before places l.certificates l.last

abbrev pub decreases-loop-next : goal.decreases-loop-next
decreases-loop-next l = length (unread_members l.certificates)
