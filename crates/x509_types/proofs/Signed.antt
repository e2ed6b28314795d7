-- The certificate that an element encodes, by the three elements in it.
use Rattle.std.proofs.Common.{◌≡◌, [], ◌∷◌, refl, sym, ap, subst, ◌∙◌}
use Rattle.der_core.specs.DerElement.{DerElement}
use Rattle.der_core.specs.Elements.{sequence}
use Rattle.asn1_types.specs.Elements.{bit_string}
use Rattle.key_types.specs.AlgorithmIdentifier.{algorithm_identifier}
use Rattle.x509_types.specs.TbsElements.{tbs_of}
use Rattle.x509_types.specs.TbsCertificate.{IsTbsCertificate}
use Rattle.x509_types.specs.Certificate.{IsCertificate}
use Rattle.x509_types.specs.Facts.Certificates.{same_three, three_of, signed_in}
use Rattle.x509_types.specs.declared.certificate.Certificate.{Certificate}

pub by_three : (element tbs algorithm value : DerElement) (c : Certificate) → element ≡ sequence (tbs ∷ algorithm ∷ value ∷ []) → IsCertificate element c
    → IsTbsCertificate tbs c.tbs_certificate × (algorithm ≡ algorithm_identifier c.signature_algorithm) × (value ≡ bit_string c.signature_value)
by_three element tbs algorithm value c is spelled =
    let same = same_three (tbs_of spelled.elements.tbs)
    (algorithm_identifier c.signature_algorithm)
    (bit_string c.signature_value) tbs algorithm value (sym (three_of element c spelled) ∙ is) in
    (subst (λ (e : DerElement). IsTbsCertificate e c.tbs_certificate) same.0 (signed_in element c spelled), sym same.1, sym same.2)

pub of_three : (element tbs algorithm value : DerElement) (c : Certificate) → element ≡ sequence (tbs ∷ algorithm ∷ value ∷ [])
    → IsTbsCertificate tbs c.tbs_certificate
    → algorithm ≡ algorithm_identifier c.signature_algorithm → value ≡ bit_string c.signature_value → IsCertificate element c
of_three element tbs algorithm value c is signed a b = record {
  elements = record { tbs = signed.elements; algorithm = algorithm; unused = c.signature_value.unused; signature = c.signature_value.payload };
  is = is ∙ ap (λ (x : DerElement). sequence (x ∷ algorithm ∷ value ∷ [])) signed.is
      ∙ ap (λ (x : DerElement). sequence (tbs_of signed.elements ∷ algorithm ∷ x ∷ [])) b;
  spelled = record { tbs = signed.spelled; algorithm = a; signature = refl };
}
