-- Indices of certificates in a bag, from 0.
use Rattle.std.specs.Prelude.{◌≡◌, ℕ, ◌<◌, ◌≤◌, List, Some, slice_get}
use Rattle.x509_types.specs.CertificateElements.{CertificateElements}

-- the certificate is at this index
abbrev pub StandsAt : List CertificateElements → ℕ → CertificateElements → Type 0
StandsAt bag place c = slice_get bag place ≡ Some c

-- a rule holds for no certificate at an index from one on and below another
abbrev pub HasNoPlaceBetween : List CertificateElements → (CertificateElements → Type 0) → ℕ → ℕ → Type 0
HasNoPlaceBetween bag holds from to =
    (place : ℕ) (c : CertificateElements) → from ≤ place → place < to → StandsAt bag place c
    → holds c → ⊥

-- a rule holds for no certificate at an index from one on
abbrev pub HasNoPlace : List CertificateElements → (CertificateElements → Type 0) → ℕ → Type 0
HasNoPlace bag holds from =
    (place : ℕ) (c : CertificateElements) → from ≤ place → StandsAt bag place c → holds c → ⊥

-- The index is the least one, from another on, with a certificate for which the rule holds, and
-- this is the certificate.
pub record IsLeastPlace (bag : List CertificateElements) (holds : CertificateElements → Type 0)
    (from place : ℕ) (c : CertificateElements) : Type 0 where
  pub later : from ≤ place
  pub stands : StandsAt bag place c
  pub fits : holds c
  pub least : HasNoPlaceBetween bag holds from place
