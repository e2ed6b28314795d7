-- What is known of a borrowed certificate.
use Rattle.std.proofs.Common.{◌≡◌, ℕ, List, [], ◌∷◌, length, refl, sym, ap, ◌∙◌, arith}
use Rattle.std.proofs.Math.Logic.{∥∥₁_elim}
use Rattle.std.proofs.lemmas.Grind.{merely}
use Rattle.der_core.specs.DerElement.{DerElement, Primitive}
use Rattle.der_core.specs.Elements.{sequence}
use Rattle.der_core.specs.Structure.{Fits}
use Rattle.asn1_types.specs.Elements.{bit_string}
use Rattle.asn1_types.specs.declared.bit_string.BitString.{BitString}
use Rattle.key_types.specs.AlgorithmIdentifier.{algorithm_identifier}
use Rattle.key_types.specs.declared.algorithm.AlgorithmIdentifier.{AlgorithmIdentifier}
use Rattle.x509_types.specs.TbsElements.{tbs_of}
use Rattle.x509_types.specs.TbsCertificate.{AreTbsFields}
use Rattle.x509_types.specs.Certificate.{IsCertificate}
use Rattle.x509_types.specs.CertificateElements.{CertificateElements, certificate_of, AreCertificateFields}
use Rattle.x509_types.specs.Facts.Certificates.{same_three}
use Rattle.x509_types.specs.declared.certificate.Certificate.{Certificate}
use Rattle.x509_types.proofs.Signed.{by_three}
use Rattle.x509_types.proofs.Spelled.{by_fields}

pub around : (element tbs algorithm value : DerElement) (f : CertificateElements)
    → element ≡ sequence (tbs ∷ algorithm ∷ value ∷ []) → tbs ≡ tbs_of f.tbs
    → algorithm ≡ f.algorithm → value ≡ Primitive 0x03 (f.unused ∷ f.signature)
    → element ≡ certificate_of f
around element tbs algorithm value f is t a v =
    is ∙ ap (λ (x : DerElement). sequence (x ∷ algorithm ∷ value ∷ [])) t
    ∙ ap (λ (x : DerElement). sequence (tbs_of f.tbs ∷ x ∷ value ∷ [])) a
    ∙ ap (λ (x : DerElement). sequence (tbs_of f.tbs ∷ f.algorithm ∷ x ∷ [])) v

same_bits : (value : DerElement) (unused : ℕ) (payload : List ℕ) (b : BitString)
    → value ≡ Primitive 0x03 (unused ∷ payload) → value ≡ bit_string b
    → unused ∷ payload ≡ b.unused ∷ b.payload
same_bits value unused payload b p q = cc (p, q)

pub all_spelled : (f : CertificateElements) (value : DerElement) → Fits AreTbsFields f.tbs
    → (a : AlgorithmIdentifier) × (f.algorithm ≡ algorithm_identifier a)
    → (b : BitString) × (value ≡ bit_string b)
    → value ≡ Primitive 0x03 (f.unused ∷ f.signature) → Fits AreCertificateFields f
all_spelled f value tbs a b v = (
  record { tbs_certificate = tbs.0; signature_algorithm = a.0; signature_value = b.0 },
  record { tbs = tbs.1; algorithm = a.1; signature = same_bits value f.unused f.signature b.0 v b.1 },
)

pub by_certificate : (element : DerElement) (f : CertificateElements) (c : Certificate) → element ≡ certificate_of f → IsCertificate element c
    → AreCertificateFields f c
by_certificate element f c is spelled =
    let three = by_three element (tbs_of f.tbs) f.algorithm (Primitive 0x03 (f.unused ∷ f.signature)) c is spelled in
    record {
      tbs = by_fields
          (tbs_of f.tbs) f.tbs c.tbs_certificate refl three.0;
      algorithm = three.1;
      signature = same_bits (Primitive 0x03 (f.unused ∷ f.signature)) f.unused f.signature
          c.signature_value refl three.2;
    }

-- the three elements in a certificate with these fields
pub three_parts : (element tbs algorithm value : DerElement) (f : CertificateElements) → element ≡ sequence (tbs ∷ algorithm ∷ value ∷ [])
    → element ≡ certificate_of f
    → (tbs ≡ tbs_of f.tbs) × (algorithm ≡ f.algorithm) × (value ≡ Primitive 0x03 (f.unused ∷ f.signature))
three_parts element tbs algorithm value f is around =
    same_three tbs algorithm value (tbs_of f.tbs) f.algorithm (Primitive 0x03 (f.unused ∷ f.signature)) (sym is ∙ around)

same_contents : (value : DerElement) (a b : List ℕ) → value ≡ Primitive 0x03 a → value ≡ Primitive 0x03 b → a ≡ b
same_contents value a b p q = cc

pub no_bits : (value : DerElement) (contents : List ℕ) (unused : ℕ) (payload : List ℕ)
    → length contents ≡ 0 → value ≡ Primitive 0x03 contents → value ≡ Primitive 0x03 (unused ∷ payload) → ⊥
no_bits value contents unused payload empty p q = omega (arith, empty, ap length (same_contents value contents (unused ∷ payload) p q))

-- what is known of an element is known of its fields
pub known_fits : (element : DerElement) (f : CertificateElements) → element ≡ certificate_of f → ∥ Fits IsCertificate element ∥₁
    → ∥ Fits AreCertificateFields f ∥₁
known_fits element f is known = ∥∥₁_elim known (λ a b. squash₁ a b) (λ fit. merely (fit.0, by_certificate element f fit.0 is fit.1))
