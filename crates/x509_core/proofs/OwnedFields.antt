-- A raw element that encodes a certificate has its fields.
use Rattle.std.proofs.Common.{◌≡◌, sym, subst, ◌∙◌}
use Rattle.std.proofs.Math.Logic.{∥∥₁_elim}
use Rattle.std.proofs.lemmas.Grind.{merely}
use Rattle.der_core.specs.DerElement.{DerElement}
use Rattle.der_core.specs.Encoding.{IsDer}
use Rattle.der_core.specs.Structure.{Fits}
use Rattle.x509_types.specs.Certificate.{IsCertificate}
use Rattle.x509_types.specs.declared.certificate.Certificate.{Certificate}
use Rattle.x509_core.specs.OwnedCertificate.{HasFields}
use Rattle.x509_core.specs.Facts.CertificateParts.{spelled_by}

fields_of : (element : DerElement) (c : Certificate) → IsDer element → IsCertificate element c → HasFields element c
fields_of element c der is = (is.elements, (is.is, subst IsDer is.is der, merely is.spelled))

pub has_fields : (element : DerElement) (c made : Certificate) → IsDer element → IsCertificate element c → made ≡ c → HasFields element made
has_fields element c made der is same = subst (λ (x : Certificate). HasFields element x) (sym same) (fields_of element c der is)

-- and an element with the fields of a certificate is known to encode one
pub known_certificate : (x element : DerElement) (c : Certificate) → x ≡ element → HasFields element c → ∥ Fits IsCertificate x ∥₁
known_certificate x element c same mine =
    ∥∥₁_elim mine.1.2 (λ a b. squash₁ a b) (λ are. merely (c, subst (λ (y : DerElement). IsCertificate y c) (sym (same ∙ mine.1.0)) (spelled_by mine.0 c are)))
