-- Several certificates, by their octets.
use Rattle.std.specs.Prelude.{◌≡◌, ℕ, List, ◌∷◌, ◌++◌, map}
use Rattle.der_core.specs.Refusals.{RefusesOctets}
use Rattle.key_core.specs.declared.element.Element.TheVariants as elements
use Rattle.x509_types.specs.Certificate.{IsCertificate}
use Rattle.x509_core.specs.CertRefusals.{IsUnreadCert}
use Rattle.x509_core.specs.OwnedCertificate.{KeptCertificate, kept_octets}
use Rattle.x509_core.specs.declared.error.CertError.{CertError}

-- the octets are those of these certificates
abbrev pub AreKeptCertificates : List (List ℕ) → List KeptCertificate → Type 0
AreKeptCertificates octets certificates = map kept_octets certificates ≡ octets

-- The error is that of the first octets that aren't a certificate.
pub record IsFirstUnread (octets : List (List ℕ)) (e : CertError) : Type 0 where
  pub read : List KeptCertificate
  pub unread : List ℕ
  pub others : List (List ℕ)
  pub are : octets ≡ map kept_octets read ++ unread ∷ others
  pub refused : IsUnreadCert elements.Certificate (RefusesOctets IsCertificate unread) e
