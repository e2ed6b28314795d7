-- The issuer and the serial number of a stored certificate.
use Rattle.std.proofs.Common.{◌≡◌, ℕ, List, [], ◌∷◌, sym, ap, ◌∙◌}
use Rattle.std.proofs.Math.Logic.{∥∥₁_elim}
use Rattle.std.specs.Coded.{Coded-set}
use Rattle.der_core.specs.DerElement.{DerElement, Primitive}
use Rattle.der_core.specs.Elements.{sequence}
use Rattle.der_core.specs.Facts.Codes.{coded_element}
use Rattle.der_core.specs.Facts.InBounds.{octets-set}
use Rattle.asn1_types.specs.Values.{integer_contents}
use Rattle.asn1_types.specs.declared.integer.IntegerAsn1.{IntegerAsn1}
use Rattle.name_types.specs.Name.{name}
use Rattle.name_types.specs.declared.attribute.AttributeTypeAndValue.{AttributeTypeAndValue}
use Rattle.x509_core.specs.OwnedCertificate.{KeptCertificate}
use Rattle.authenticode_parts.specs.SignedProgram.{issuer_and_serial_of}
use Rattle.cms_types.specs.SignerIdentifier.{issuer_and_serial_number}

pub issuer_is : (kept : KeptCertificate) → kept.elements.tbs.issuer ≡ name kept.certificate.tbs_certificate.issuer
issuer_is kept = ∥∥₁_elim kept.spelled (Coded-set coded_element kept.elements.tbs.issuer (name kept.certificate.tbs_certificate.issuer)) (λ are. are.tbs.issuer)

pub serial_is : (kept : KeptCertificate) → kept.elements.tbs.serial_number ≡ integer_contents kept.certificate.tbs_certificate.serial_number
serial_is kept = ∥∥₁_elim kept.spelled (octets-set kept.elements.tbs.serial_number (integer_contents kept.certificate.tbs_certificate.serial_number))
    (λ are. are.tbs.serial_number)

-- copies of both identify it
pub names_it : (kept : KeptCertificate) (issuer : List (List AttributeTypeAndValue)) (serial_number : IntegerAsn1)
    → issuer ≡ kept.certificate.tbs_certificate.issuer → serial_number ≡ kept.certificate.tbs_certificate.serial_number
    → issuer_and_serial_number (record { issuer = issuer; serial_number = serial_number }) ≡ issuer_and_serial_of kept.elements
names_it kept issuer serial_number same same' =
    ap (λ (e : DerElement). sequence (e ∷ Primitive 0x02 (integer_contents serial_number) ∷ [])) (ap name same ∙ sym (issuer_is kept))
    ∙ ap (λ (contents : List ℕ). sequence (kept.elements.tbs.issuer ∷ Primitive 0x02 contents ∷ [])) (ap integer_contents same' ∙ sym (serial_is kept))
