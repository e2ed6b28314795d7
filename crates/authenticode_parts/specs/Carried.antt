-- Which of the given certificates a signature contains.
use Rattle.std.specs.Prelude.{◌≡◌, ◌⊎◌, List, [], ◌∷◌, map}
use Rattle.der_core.specs.DerElement.{DerElement}
use Rattle.x509_core.specs.CertType.{IsOfType}
use Rattle.x509_core.specs.OwnedCertificate.{KeptCertificate}
use Rattle.x509_core.specs.declared.cert_type.CertType.TheVariants as types
use Rattle.x509_types.specs.CertificateElements.{CertificateElements, certificate_of}

-- certificates by their stored elements
abbrev pub elements_of : List KeptCertificate → List CertificateElements
elements_of certificates = map (λ (kept : KeptCertificate). kept.elements) certificates

-- this is a root certificate
abbrev pub IsRootCertificate : CertificateElements → Type 0
IsRootCertificate c = IsOfType c types.Root

-- the certificates without the roots, in order
abbrev pub AreWithoutRoots : List CertificateElements → List CertificateElements → Type 0
AreWithoutRoots [] carried = carried ≡ []
AreWithoutRoots (c ∷ bag) carried =
    (IsRootCertificate c × AreWithoutRoots bag carried)
    ⊎ ((IsRootCertificate c → ⊥) × (others : List CertificateElements) × (carried ≡ c ∷ others)
    × AreWithoutRoots bag others)

-- of one certificate this one, of several those that aren't roots
abbrev pub AreCarried : List CertificateElements → List CertificateElements → Type 0
AreCarried [] carried = carried ≡ []
AreCarried (c ∷ []) carried = carried ≡ c ∷ []
AreCarried (c ∷ d ∷ bag) carried = AreWithoutRoots (c ∷ d ∷ bag) carried

-- The elements are those of the certificates without the roots.
abbrev pub HoldsWithoutRoots : List CertificateElements → List DerElement → Type 0
HoldsWithoutRoots bag elements =
    (carried : List CertificateElements) × AreWithoutRoots bag carried
    × (elements ≡ map certificate_of carried)

-- The elements are those of the contained certificates.
abbrev pub HoldsCarried : List CertificateElements → List DerElement → Type 0
HoldsCarried bag elements =
    (carried : List CertificateElements) × AreCarried bag carried
    × (elements ≡ map certificate_of carried)
