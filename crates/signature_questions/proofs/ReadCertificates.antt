-- Reading certificates as a chain: the first, and its parents.
use Rattle.std.proofs.Common.{◌≡◌, ℕ, List, [], ◌∷◌, refl, sym, ap₂, ◌∙◌}
use Rattle.der_core.specs.Refusals.{RefusesOctets}
use Rattle.key_core.specs.declared.element.Element.TheVariants as elements
use Rattle.x509_types.specs.Certificate.{IsCertificate}
use Rattle.x509_core.specs.CertRefusals.{IsUnreadCert}
use Rattle.x509_core.specs.OwnedCertificate.{KeptCertificate, kept_octets}
use Rattle.x509_core.specs.OwnedCertificates.{AreKeptCertificates, IsFirstUnread}
use Rattle.x509_core.specs.declared.error.CertError.{CertError}

module _ (octets : List ℕ) (others : List (List ℕ)) where
  -- if the first isn't read
  pub first_unread : (e : CertError) → IsUnreadCert elements.Certificate (RefusesOctets IsCertificate octets) e → IsFirstUnread (octets ∷ others) e
  first_unread e unread = record { read = []; unread = octets; others = others; are = refl; refused = unread }

  module _ (certificate : KeptCertificate) (kept : kept_octets certificate ≡ octets) where
    -- if it is read, and a parent isn't
    pub parent_unread : (e : CertError) → IsFirstUnread others e → IsFirstUnread (octets ∷ others) e
    parent_unread e h = record {
      read = certificate ∷ h.read;
      unread = h.unread;
      others = h.others;
      are = ap₂ (λ (x : List ℕ) (xs : List (List ℕ)). x ∷ xs) (sym kept) h.are;
      refused = h.refused;
    }

    -- if all are read
    pub chain_read : (parents : List KeptCertificate) → AreKeptCertificates others parents → AreKeptCertificates (octets ∷ others) (certificate ∷ parents)
    chain_read parents are = ap₂ (λ (x : List ℕ) (xs : List (List ℕ)). x ∷ xs) kept are
