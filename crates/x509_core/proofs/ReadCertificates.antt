-- Certificates that are read one after another.
use Rattle.std.proofs.Common.{◌≡◌, ℕ, List, [], ◌∷◌, ◌++◌, map, append_assoc, refl, sym, ap, ◌∙◌}
use Rattle.std.proofs.lemmas.List.{append-nil, map-append}
use Rattle.der_core.specs.Refusals.{RefusesOctets}
use Rattle.der_core.specs.declared.error.DerError.TheVariants as der
use Rattle.key_core.specs.declared.element.Element.TheVariants as elements
use Rattle.x509_types.specs.Certificate.{IsCertificate}
use Rattle.x509_core.specs.CertRefusals.{IsUnreadCert}
use Rattle.x509_core.specs.OwnedCertificate.{KeptCertificate, kept_octets}
use Rattle.x509_core.specs.OwnedCertificates.{AreKeptCertificates, IsFirstUnread}
use Rattle.x509_core.specs.declared.error.CertError.{CertError}
use Rattle.x509_core.specs.declared.error.CertError.TheVariants as errors

-- all octets are those of the certificates that were read, and the rest
abbrev pub AreReadSoFar : (all rest : List (List ℕ)) → List KeptCertificate → Type 0
AreReadSoFar all rest kept = all ≡ map kept_octets kept ++ rest

module _ (all rest : List (List ℕ)) (kept : List KeptCertificate) (octets : List ℕ) (others : List (List ℕ)) (so_far : AreReadSoFar all rest kept)
    (next : rest ≡ octets ∷ others) where
  -- if the next isn't read
  pub next_unread : (e : CertError) → IsUnreadCert elements.Certificate (RefusesOctets IsCertificate octets) e → IsFirstUnread all e
  next_unread e unread = record {
    read = kept;
    unread = octets;
    others = others;
    are = so_far ∙ ap (λ (r : List (List ℕ)). map kept_octets kept ++ r) next;
    refused = unread;
  }

  -- if memory ran out for storing it
  pub next_unkept : IsFirstUnread all errors.Memory
  next_unkept = next_unread errors.Memory (der.Memory, refl, tt)

  -- if it is read
  pub next_read : (certificate : KeptCertificate) (longer : List KeptCertificate) → kept_octets certificate ≡ octets → longer ≡ kept ++ certificate ∷ []
      → AreReadSoFar all others longer
  next_read certificate longer is pushed =
      so_far ∙ ap (λ (r : List (List ℕ)). map kept_octets kept ++ r) next
      ∙ ap (λ (o : List ℕ). map kept_octets kept ++ o ∷ others) (sym is)
      ∙ sym (append_assoc (map kept_octets kept) (kept_octets certificate ∷ []) others)
      ∙ ap (λ (os : List (List ℕ)). os ++ others) (sym (ap (map kept_octets) pushed ∙ map-append kept_octets kept (certificate ∷ [])))

-- if nothing is left
pub all_read : (all rest : List (List ℕ)) (kept : List KeptCertificate) → AreReadSoFar all rest kept → rest ≡ [] → AreKeptCertificates all kept
all_read all rest kept so_far none =
    sym (so_far ∙ ap (λ (r : List (List ℕ)). map kept_octets kept ++ r) none ∙ append-nil (map kept_octets kept))
