-- The elements of a certificate are unique.
use Rattle.std.proofs.Common.{◌≡◌, ◌∷◌}
use Rattle.der_core.specs.DerElement.{Primitive}
use Rattle.x509_types.specs.CertificateElements.{CertificateElements, certificate_of}
use Rattle.x509_types.specs.TbsElements.{tbs_of}
use Rattle.x509_types.specs.Facts.Certificates.{same_three}
use Rattle.x509_types.specs.Facts.TbsElements.{same_elements}

pub one_certificate : (f g : CertificateElements) → certificate_of f ≡ certificate_of g → f ≡ g
one_certificate f g e =
    let three =
    same_three (tbs_of f.tbs) f.algorithm (Primitive 0x03 (f.unused ∷ f.signature)) (tbs_of g.tbs) g.algorithm (Primitive 0x03 (g.unused ∷ g.signature)) e in
    let tbs = same_elements f.tbs g.tbs three.0 in
    let bits : Primitive 0x03 (f.unused ∷ f.signature) ≡ Primitive 0x03 (g.unused ∷ g.signature) = three.2 in
    let unused : f.unused ≡ g.unused = cc in
    let signature : f.signature ≡ g.signature = cc in
    λ i. record { tbs = tbs i; algorithm = three.1 i; unused = unused i; signature = signature i }
