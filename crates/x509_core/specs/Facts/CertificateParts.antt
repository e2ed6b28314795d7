-- The element of a certificate determines its fields, and they determine its value.
use Rattle.std.specs.Prelude.{ℕ, List}
use Rattle.std.proofs.Common.{◌≡◌, ◌∷◌, refl}
use Rattle.std.proofs.Math.Logic.{∥∥₁_elim}
use Rattle.std.specs.Coded.{Coded, Coded-set}
use Rattle.der_core.specs.DerElement.{Primitive}
use Rattle.der_core.specs.Facts.Codes.{octets_code, stored, stored_inj}
use Rattle.x509_types.specs.TbsElements.{tbs_of}
use Rattle.x509_types.specs.Certificate.{IsCertificate, certificate_octets}
use Rattle.x509_types.specs.CertificateElements.{CertificateElements, certificate_of, AreCertificateFields}
use Rattle.x509_types.specs.Facts.Certificates.{certificates, certificates_by_octets, same_three}
use Rattle.x509_types.specs.Facts.TbsElements.{same_elements}
use Rattle.x509_types.specs.declared.certificate.Certificate.{Certificate}

same_parts : (f g : CertificateElements) → f.tbs ≡ g.tbs → f.algorithm ≡ g.algorithm → f.unused ≡ g.unused → f.signature ≡ g.signature → f ≡ g
same_parts f g tbs algorithm unused signature i = record { tbs = tbs i; algorithm = algorithm i; unused = unused i; signature = signature i }

same_unused : (m n : ℕ) (a b : List ℕ) → Primitive 0x03 (m ∷ a) ≡ Primitive 0x03 (n ∷ b) → m ≡ n
same_unused m n a b e = cc

same_payload : (m n : ℕ) (a b : List ℕ) → Primitive 0x03 (m ∷ a) ≡ Primitive 0x03 (n ∷ b) → a ≡ b
same_payload m n a b e = cc

-- one element has one list of fields
pub parts_once : (f g : CertificateElements) → certificate_of f ≡ certificate_of g → f ≡ g
parts_once f g e =
    let same =
    same_three (tbs_of f.tbs) f.algorithm (Primitive 0x03 (f.unused ∷ f.signature)) (tbs_of g.tbs) g.algorithm (Primitive 0x03 (g.unused ∷ g.signature)) e in
    same_parts f g (same_elements f.tbs g.tbs same.0) same.1 (same_unused f.unused g.unused f.signature g.signature same.2)
    (same_payload f.unused g.unused f.signature g.signature same.2)

abbrev pub coded_elements : Coded CertificateElements
coded_elements = record { code = λ f. stored (certificate_of f); inj = λ a b e. parts_once a b (stored_inj (certificate_of a) (certificate_of b) e) }

-- the element with the fields of a certificate is an encoding of it
pub spelled_by : (f : CertificateElements) (c : Certificate) → AreCertificateFields f c → IsCertificate (certificate_of f) c
spelled_by f c are = record { elements = f; is = refl; spelled = are }

abbrev pub coded_certificate : Coded Certificate
coded_certificate = record {
  code = λ c. octets_code.code (certificate_octets c);
  inj = λ a b e. certificates_by_octets a b (octets_code.inj (certificate_octets a) (certificate_octets b) e);
}

-- fields are those of one certificate
pub value_once : (f : CertificateElements) (a b : Certificate) → ∥ AreCertificateFields f a ∥₁ → ∥ AreCertificateFields f b ∥₁ → a ≡ b
value_once f a b p q =
    ∥∥₁_elim p (Coded-set coded_certificate a b)
    (λ x. ∥∥₁_elim q (Coded-set coded_certificate a b) (λ y. certificates.once (certificate_of f) a b (spelled_by f a x) (spelled_by f b y)))
