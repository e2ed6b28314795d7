-- A certificate stored with its octets (RFC 5280 4.1).
use Rattle.std.specs.Prelude.{◌≡◌, ℕ, List, [], ◌∷◌, ◌++◌}
use Rattle.der_core.specs.DerElement.{DerElement}
use Rattle.der_core.specs.Encoding.{encoding, IsDer}
use Rattle.x509_types.specs.Certificate.{certificate, inner_certificate}
use Rattle.x509_types.specs.CertificateElements.{CertificateElements, certificate_of, AreCertificateFields}
use Rattle.x509_types.specs.declared.certificate.Certificate.{Certificate}

-- The elements of its fields, which are within limits, and the value that they encode.
pub record KeptCertificate : Type 0 where
  pub elements : CertificateElements
  pub certificate : Certificate
  pub der : IsDer (certificate_of elements)
  pub spelled : ∥ AreCertificateFields elements certificate ∥₁

-- its octets
abbrev pub kept_octets : KeptCertificate → List ℕ
kept_octets kept = encoding (certificate_of kept.elements)

-- The element consists of these fields, which are within limits and encode the certificate.
abbrev pub IsAround : DerElement → Certificate → CertificateElements → Type 0
IsAround element c f =
    (element ≡ certificate_of f) × IsDer (certificate_of f) × ∥ AreCertificateFields f c ∥₁

-- The element consists of some such fields.
abbrev pub HasFields : DerElement → Certificate → Type 0
HasFields element c = (f : CertificateElements) × IsAround element c f

-- the encoding of a value
abbrev pub written_octets : Certificate → List ℕ
written_octets c = encoding (certificate c)

-- all elements that are written for it, inner ones first
abbrev pub written_elements : Certificate → List DerElement
written_elements c = inner_certificate c ++ certificate c ∷ []
