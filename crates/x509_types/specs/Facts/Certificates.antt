-- Certificates: an element encodes at most one, and what is written for one encodes it.
use Rattle.std.proofs.Common.{◌≡◌, ℕ, List, [], ◌∷◌, refl, sym, ap, subst, ◌∙◌, arith}
use Rattle.der_core.specs.DerElement.{DerElement, DerElements, Primitive, row}
use Rattle.der_core.specs.Encoding.{IsWellFormed}
use Rattle.der_core.specs.Elements.{sequence}
use Rattle.der_core.specs.Borrowed.{AreDer}
use Rattle.der_core.specs.Structure.{IsGrammar}
use Rattle.der_core.specs.Facts.Fronts.{formed_encoding_once}
use Rattle.asn1_types.specs.Elements.{bit_string}
use Rattle.asn1_types.specs.Facts.Elements.{bit_strings}
use Rattle.asn1_types.specs.Values.{payload_of, unused_of}
use Rattle.asn1_types.specs.declared.bit_string.BitString.{BitString}
use Rattle.key_types.specs.AlgorithmIdentifier.{algorithm_identifier}
use Rattle.key_types.specs.Facts.Algorithms.{algorithms}
use Rattle.key_types.specs.declared.algorithm.AlgorithmIdentifier.{AlgorithmIdentifier}
use Rattle.x509_types.specs.TbsElements.{tbs_of}
use Rattle.x509_types.specs.TbsCertificate.{IsTbsCertificate, tbs_certificate}
use Rattle.x509_types.specs.CertificateElements.{CertificateElements}
use Rattle.x509_types.specs.Extension.{value_kinds}
use Rattle.x509_types.specs.Certificate.{IsCertificate, certificate, certificate_octets, inner_certificate}
use Rattle.x509_types.specs.Facts.DeterminedExtensions.{kinds_and_octets}
use Rattle.x509_types.specs.Facts.TbsCertificates.{tbs_certificates, tbs_determined}
use Rattle.x509_types.specs.declared.certificate.Certificate.{Certificate}

same_algorithm : (a b : AlgorithmIdentifier) → algorithm_identifier a ≡ algorithm_identifier b → a ≡ b
same_algorithm a b e = algorithms.once (algorithm_identifier a) a b refl e

same_bits : (a b : BitString) → bit_string a ≡ bit_string b → a ≡ b
same_bits a b e = bit_strings.once (bit_string a) a b refl e

pub same_certificate : (a b : Certificate) → a.tbs_certificate ≡ b.tbs_certificate → a.signature_algorithm ≡ b.signature_algorithm
    → a.signature_value ≡ b.signature_value → a ≡ b
same_certificate a b tbs algorithm value i = record { tbs_certificate = tbs i; signature_algorithm = algorithm i; signature_value = value i }

-- sequences of three are the same only if all elements are
pub same_three : (s t u x y z : DerElement) → sequence (s ∷ t ∷ u ∷ []) ≡ sequence (x ∷ y ∷ z ∷ []) → (s ≡ x) × (t ≡ y) × (u ≡ z)
same_three s t u x y z e = (cc, cc, cc)

-- the three elements in one that encodes a certificate
pub three_of : (element : DerElement) (c : Certificate) (p : IsCertificate element c)
    → element ≡ sequence (tbs_of p.elements.tbs ∷ algorithm_identifier c.signature_algorithm ∷ bit_string c.signature_value ∷ [])
three_of element c p =
    let f = p.elements in
    p.is
    ∙ ap (λ (x : DerElement). sequence (tbs_of f.tbs ∷ x ∷ Primitive 0x03 (f.unused ∷ f.signature) ∷ [])) p.spelled.algorithm
    ∙ ap (λ (octets : List ℕ). sequence (tbs_of f.tbs ∷ algorithm_identifier c.signature_algorithm ∷ Primitive 0x03 octets ∷ [])) p.spelled.signature

-- the first of them encodes what is signed
pub signed_in : (element : DerElement) (c : Certificate) (p : IsCertificate element c) → IsTbsCertificate (tbs_of p.elements.tbs) c.tbs_certificate
signed_in element c p = record { elements = p.elements.tbs; is = refl; spelled = p.spelled.tbs }

certificates_once : (element : DerElement) (a b : Certificate) → IsCertificate element a → IsCertificate element b → a ≡ b
certificates_once element a b p q =
    let same = same_three (tbs_of p.elements.tbs) (algorithm_identifier a.signature_algorithm)
    (bit_string a.signature_value) (tbs_of q.elements.tbs)
    (algorithm_identifier b.signature_algorithm) (bit_string b.signature_value)
    (sym (three_of element a p) ∙ three_of element b q) in
    same_certificate a b (tbs_certificates.once
    (tbs_of q.elements.tbs) a.tbs_certificate b.tbs_certificate
    (subst (λ (e : DerElement). IsTbsCertificate e a.tbs_certificate) same.0
    (signed_in element a p)) (signed_in element b q))
    (same_algorithm a.signature_algorithm b.signature_algorithm same.1) (same_bits a.signature_value b.signature_value same.2)

certificates_spelled : (c : Certificate) → AreDer (inner_certificate c) → IsCertificate (certificate c) c
certificates_spelled c der =
    let tbs = tbs_certificates.spelled c.tbs_certificate der in
    let f : CertificateElements = record {
      tbs = tbs.elements;
      algorithm = algorithm_identifier c.signature_algorithm;
      unused = unused_of
          c.signature_value;
      signature = payload_of c.signature_value;
    } in
    record {
      elements = f;
      is = ap (λ (x : DerElement). sequence (x ∷ algorithm_identifier c.signature_algorithm ∷ bit_string c.signature_value ∷ [])) tbs.is;
      spelled = record { tbs = tbs.spelled; algorithm = refl; signature = refl };
    }

certificates_determined : (a b : Certificate) → value_kinds a.tbs_certificate.extensions ≡ value_kinds b.tbs_certificate.extensions
    → certificate a ≡ certificate b → a ≡ b
certificates_determined a b kinds e =
    let same = same_three (tbs_certificate a.tbs_certificate)
    (algorithm_identifier a.signature_algorithm) (bit_string a.signature_value)
    (tbs_certificate b.tbs_certificate) (algorithm_identifier b.signature_algorithm)
    (bit_string b.signature_value) e in
    same_certificate a b (tbs_determined a.tbs_certificate b.tbs_certificate kinds same.0)
    (same_algorithm a.signature_algorithm b.signature_algorithm same.1)
    (same_bits a.signature_value b.signature_value same.2)

pub certificates_formed : (c : Certificate) → IsWellFormed (certificate c)
certificates_formed c = (
  (omega arith, omega arith, omega arith),
  refl,
  (
    tbs_certificates.formed c.tbs_certificate,
    (algorithms.formed c.signature_algorithm, (bit_strings.formed c.signature_value, tt)),
  ),
)

pub certificates : IsGrammar IsCertificate certificate inner_certificate
certificates = record {
  once = certificates_once;
  bounded = λ element c p. tbs_certificates.bounded (tbs_of p.elements.tbs) c.tbs_certificate (signed_in element c p);
  spelled = certificates_spelled;
  formed = certificates_formed;
}

abbrev fields_of : Certificate → DerElements
fields_of c = row (tbs_certificate c.tbs_certificate ∷ algorithm_identifier c.signature_algorithm ∷ bit_string c.signature_value ∷ [])

pub certificates_by_octets : (a b : Certificate) → certificate_octets a ≡ certificate_octets b → a ≡ b
certificates_by_octets a b e =
    let parts = kinds_and_octets a.tbs_certificate.extensions b.tbs_certificate.extensions (fields_of a) (fields_of b) e in
    certificates_determined a b parts.0 (formed_encoding_once (certificate a) (certificate b) (certificates_formed a) (certificates_formed b) parts.1)
