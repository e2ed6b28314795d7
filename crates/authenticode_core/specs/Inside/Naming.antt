-- The signer's certificate, borrowed.
use Rattle.std.specs.Prelude.{◌≡◌, ◌↔◌, Bool, true, false, ◌⊎◌, ℕ, List, Option, Some, None, IsTrue}
use Rattle.x509_types.specs.CertificateElements.{CertificateElements}
use Rattle.x509_types.specs.CertificateView.{view_elements}
use Rattle.x509_types.specs.Purposes.{HasPurposes}
use Rattle.authenticode_core.specs.Inside.Wanted.{IsNamedBy, IsWanted}
use Rattle.authenticode_core.specs.Indices.{IsLeastPlace}
use Rattle.authenticode_core.specs.SigningRules.{AsksForPurposes}
use Rattle.authenticode_core.specs.declared.bag.BagCertificate.{BagCertificate}
use Rattle.authenticode_core.specs.declared.bag.naming.Named.{Named}
use Rattle.authenticode_core.specs.declared.bag.wanted.Wanted.{Wanted}

-- the certificate is the first one of the bag with this issuer and serial number
abbrev pub IsFirstOfName : List CertificateElements → List ℕ → List ℕ → CertificateElements → Type 0
IsFirstOfName bag issuer serial_number c =
    (place : ℕ) × IsLeastPlace bag (IsNamedBy issuer serial_number) 0 place c

-- The certificate is at the least index of one with this issuer and serial number, and it is known
-- whether its issuer walk has an extended key usage.
pub record IsNamedAt (bag : List CertificateElements) (issuer serial_number : List ℕ)
    (named : Named) : Type 0 where
  pub least : IsLeastPlace bag (IsNamedBy issuer serial_number) 0 named.certificate.place
      (view_elements named.certificate.certificate)
  pub asks : IsTrue named.asks_for_purposes
      ↔ AsksForPurposes bag (view_elements named.certificate.certificate)

-- ---- a bag, read one certificate at a time

-- what was found before, or else the next certificate if it is wanted
abbrev pub FindsNext : Wanted → Option BagCertificate → BagCertificate → Option BagCertificate
    → Type 0
FindsNext wanted (Some found) next result = result ≡ Some found
FindsNext wanted None next None = IsWanted wanted (view_elements next.certificate) → ⊥
FindsNext wanted None next (Some found) =
    (found ≡ next) × IsWanted wanted (view_elements next.certificate)

-- whether an earlier certificate of the walk has an extended key usage, or this one, if it is on
-- the walk
abbrev pub AsksNext : Bool → Bool → CertificateElements → Bool → Type 0
AsksNext asks true c result = IsTrue result ↔ (IsTrue asks ⊎ HasPurposes c)
AsksNext asks false c result = result ≡ asks
