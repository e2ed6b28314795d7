-- Whether an element has the fields of a certificate is a proposition, and stored certificates have
-- codes.
use Rattle.std.specs.Prelude.{◌≡◌}
use Rattle.std.specs.Coded.{Coded, Coded-set}
use Rattle.std.proofs.Common.{ap, sym, subst, ◌∙◌}
use mathlib.Core.HLevel.{Σ_prop_path}
use Rattle.der_core.specs.DerElement.{DerElement}
use Rattle.der_core.specs.Encoding.{IsDer, most_levels}
use Rattle.der_core.specs.Facts.Codes.{stored, stored_inj, coded_element}
use Rattle.der_core.specs.Facts.InBounds.{IsDerWithin-prop}
use Rattle.x509_types.specs.CertificateElements.{CertificateElements, certificate_of, AreCertificateFields}
use Rattle.x509_types.specs.declared.certificate.Certificate.{Certificate}
use Rattle.x509_core.specs.OwnedCertificate.{KeptCertificate, IsAround, HasFields}
use Rattle.x509_core.specs.Facts.CertificateParts.{parts_once, value_once}

spelled-prop : (f : CertificateElements) (c : Certificate) → IsProp (∥ AreCertificateFields f c ∥₁)
spelled-prop f c x y = squash₁ x y

same_element : (a b : DerElement) → IsProp (a ≡ b)
same_element a b = Coded-set coded_element a b

IsAround-prop : (element : DerElement) (c : Certificate) (f : CertificateElements) → IsProp (IsAround element c f)
IsAround-prop element c f = hlevel (same_element element (certificate_of f), IsDerWithin-prop most_levels (certificate_of f), spelled-prop f c)

pub HasFields-prop : (element : DerElement) (c : Certificate) → IsProp (HasFields element c)
HasFields-prop element c a b = Σ_prop_path (IsAround-prop element c) (parts_once a.0 b.0 (sym a.1.0 ∙ b.1.0))

abbrev kept_of : (f : CertificateElements) (c : Certificate) → IsDer (certificate_of f) → ∥ AreCertificateFields f c ∥₁ → KeptCertificate
kept_of f c der spelled = record { elements = f; certificate = c; der = der; spelled = spelled }

same_facts : (a : KeptCertificate) (der : IsDer (certificate_of a.elements)) (spelled : ∥ AreCertificateFields a.elements a.certificate ∥₁)
    → a ≡ kept_of a.elements a.certificate der spelled
same_facts a der spelled =
    ap (λ (d : IsDer (certificate_of a.elements)). kept_of a.elements a.certificate d a.spelled)
    (IsDerWithin-prop most_levels (certificate_of a.elements) a.der der)
    ∙ ap (λ (s : ∥ AreCertificateFields a.elements a.certificate ∥₁). kept_of a.elements a.certificate der s) (squash₁ a.spelled spelled)

same_value : (a : KeptCertificate) (c : Certificate) (der : IsDer (certificate_of a.elements)) (spelled : ∥ AreCertificateFields a.elements c ∥₁)
    → a ≡ kept_of a.elements c der spelled
same_value a c der spelled =
    subst (λ (x : Certificate). (s : ∥ AreCertificateFields a.elements x ∥₁) → a ≡ kept_of a.elements x der s)
    (value_once a.elements a.certificate c a.spelled spelled) (λ s. same_facts a der s) spelled

-- certificates with the same elements are the same
pub same_kept : (a b : KeptCertificate) → a.elements ≡ b.elements → a ≡ b
same_kept a b e =
    subst (λ (f : CertificateElements). (der : IsDer (certificate_of f)) (spelled : ∥ AreCertificateFields f b.certificate ∥₁)
    → a ≡ kept_of f b.certificate der spelled) e
    (λ der spelled. same_value a b.certificate der spelled) b.der b.spelled

-- and so are those with the same element
pub kept_once : (a b : KeptCertificate) → certificate_of a.elements ≡ certificate_of b.elements → a ≡ b
kept_once a b e = same_kept a b (parts_once a.elements b.elements e)

abbrev pub coded_certificates : Coded KeptCertificate
coded_certificates = record {
  code = λ kept. stored (certificate_of kept.elements);
  inj = λ a b e. kept_once a b (stored_inj (certificate_of a.elements) (certificate_of b.elements) e);
}
