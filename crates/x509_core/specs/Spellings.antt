-- How a certificate that is written anew may differ from the one that was read.
use Rattle.std.specs.Prelude.{◌≡◌, ◌∷◌, None}
use Rattle.der_core.specs.DerElement.{DerElement}
use Rattle.der_core.specs.Each.{IsListOf}
use Rattle.asn1_types.specs.Values.{bit_string_contents}
use Rattle.key_types.specs.AlgorithmIdentifier.{algorithm_identifier}
use Rattle.x509_types.specs.CertificateElements.{CertificateElements, certificate_of}
use Rattle.x509_types.specs.ExtensionSpellings.{IsSpelling}
use Rattle.der_core.specs.Optional.{SpellsOption}
use Rattle.x509_types.specs.TbsCertificate.{tbs_elements}
use Rattle.x509_types.specs.TbsElements.{TbsElements}
use Rattle.x509_types.specs.declared.certificate.Certificate.{Certificate}

-- all fields but the extensions
abbrev pub without_extensions : TbsElements → TbsElements
without_extensions f = record {
  version = f.version;
  serial_number = f.serial_number;
  signature = f.signature;
  issuer = f.issuer;
  validity = f.validity;
  subject = f.subject;
  subject_public_key_info = f.subject_public_key_info;
  issuer_unique_id = f.issuer_unique_id;
  subject_unique_id = f.subject_unique_id;
  extensions = None;
}

-- The fields of the value are the written ones, except for the encoding of its extensions, each at
-- its index.
pub record AreAsWritten (f : CertificateElements) (c : Certificate) : Type 0 where
  pub others : without_extensions f.tbs ≡ without_extensions (tbs_elements c.tbs_certificate)
  pub extensions : SpellsOption (IsListOf 0x30 IsSpelling) f.tbs.extensions
      c.tbs_certificate.extensions
  pub algorithm : f.algorithm ≡ algorithm_identifier c.signature_algorithm
  pub signature : f.unused ∷ f.signature ≡ bit_string_contents c.signature_value

-- The element of a certificate has its fields as written, except for that.
pub record IsWrittenAlike (element : DerElement) (c : Certificate) : Type 0 where
  pub elements : CertificateElements
  pub is : element ≡ certificate_of elements
  pub alike : AreAsWritten elements c
