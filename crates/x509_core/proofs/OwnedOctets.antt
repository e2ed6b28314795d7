-- Octets are those of one certificate, which is read from them, unless memory runs out.
use Rattle.std.proofs.Common.{◌≡◌, ℕ, List, [], ◌∷◌, ◌++◌, map, refl, sym, ap, ◌∙◌}
use Rattle.std.proofs.Math.Logic.{∥∥₁_elim}
use Rattle.der_core.specs.Refusals.{RefusesOctets}
use Rattle.der_core.specs.declared.error.DerError.{DerError}
use Rattle.der_core.specs.declared.error.DerError.TheVariants as der
use Rattle.der_core.proofs.Exact.{whole_once}
use Rattle.der_core.proofs.Rereading.{only_memory}
use Rattle.key_core.specs.declared.element.Element.TheVariants as elements
use Rattle.x509_types.specs.Certificate.{IsCertificate}
use Rattle.x509_types.specs.CertificateElements.{certificate_of}
use Rattle.x509_types.specs.declared.certificate.Certificate.{Certificate}
use Rattle.x509_core.specs.CertRefusals.{unread}
use Rattle.x509_core.specs.OwnedCertificate.{KeptCertificate, kept_octets}
use Rattle.x509_core.specs.OwnedCertificates.{AreKeptCertificates, IsFirstUnread}
use Rattle.x509_core.specs.Facts.Certs.{kept_once}
use Rattle.x509_core.specs.declared.error.CertError.{CertError}
use Rattle.x509_core.specs.declared.error.CertError.TheVariants as errors

-- ---- one certificate

pub same_certificate : (a b : KeptCertificate) → kept_octets a ≡ kept_octets b → a ≡ b
same_certificate a b same = kept_once a b (whole_once (kept_octets a) (certificate_of a.elements) (certificate_of b.elements) a.der b.der refl same)

spells_none : (kept : KeptCertificate) → ((c : Certificate) → IsCertificate (certificate_of kept.elements) c → ⊥) → ⊥
spells_none kept none = ∥∥₁_elim kept.spelled (λ x y. absurd x) (λ are. none kept.certificate (record { elements = kept.elements; is = refl; spelled = are }))

-- octets of a certificate are refused only when out of memory
pub refused_for_memory : (kept : KeptCertificate) (octets : List ℕ) (source : DerError) → kept_octets kept ≡ octets → RefusesOctets IsCertificate octets source
    → source ≡ der.Memory
refused_for_memory kept octets source is refused =
    only_memory IsCertificate octets (certificate_of kept.elements) source kept.der (sym is) (spells_none kept) refused

-- ---- several

pub same_certificates : (xs ys : List KeptCertificate) → map kept_octets xs ≡ map kept_octets ys → xs ≡ ys
same_certificates [] [] same = refl
same_certificates [] (y ∷ ys) same = absurd cc
same_certificates (x ∷ xs) [] same = absurd cc
same_certificates (x ∷ xs) (y ∷ ys) same =
    let first = same_certificate x y (cc) in
    let others = same_certificates xs ys (cc) in
    cc

-- octets among those of certificates are a certificate's
pub kept_among : (certificates : List KeptCertificate) (ahead : List (List ℕ)) (octets : List ℕ) (behind : List (List ℕ))
    → map kept_octets certificates ≡ ahead ++ octets ∷ behind
    → (kept : KeptCertificate) × (kept_octets kept ≡ octets)
kept_among [] [] octets behind same = absurd cc
kept_among (kept ∷ certificates) [] octets behind same = (kept, cc)
kept_among [] (one ∷ ahead) octets behind same = absurd cc
kept_among (kept ∷ certificates) (one ∷ ahead) octets behind same = kept_among certificates ahead octets behind (cc)

-- if all are certificates, none is refused except for out of memory
pub unread_for_memory : (octets : List (List ℕ)) (certificates : List KeptCertificate) (e : CertError) → AreKeptCertificates octets certificates
    → IsFirstUnread octets e → e ≡ errors.Memory
unread_for_memory octets certificates e are h =
    let kept = kept_among certificates (map kept_octets h.read) h.unread h.others (are ∙ h.are) in
    h.refused.1 ∙ ap (unread elements.Certificate) (refused_for_memory kept.0 h.unread h.refused.0 kept.1 h.refused.2)
