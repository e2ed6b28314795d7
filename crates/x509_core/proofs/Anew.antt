-- A certificate that was read is written as it was read, except for the encoding of its extensions.
use Rattle.std.proofs.Common.{◌≡◌, List, Option, Some, None, refl, ap}
use Rattle.std.specs.Option.{option_map}
use Rattle.der_core.specs.DerElement.{DerElement}
use Rattle.der_core.specs.Each.{IsListOf}
use Rattle.x509_types.specs.Certificate.{IsCertificate}
use Rattle.der_core.specs.Optional.{SpellsOption}
use Rattle.x509_types.specs.TbsCertificate.{IsVersion, IsExtensions, AreTbsFields, tbs_elements}
use Rattle.x509_types.specs.TbsElements.{TbsElements}
use Rattle.x509_types.specs.Version.{version}
use Rattle.x509_types.specs.declared.certificate.Certificate.{Certificate}
use Rattle.x509_types.specs.declared.certificate.tbs_certificate.TbsCertificate.{TbsCertificate}
use Rattle.x509_types.specs.declared.certificate.version.Version.{Version}
use Rattle.x509_types.specs.declared.extension.Extension.{Extension}
use Rattle.x509_types.proofs.Spellings.{list_spelling}
use Rattle.x509_types.specs.ExtensionSpellings.{IsSpelling}
use Rattle.x509_core.specs.Spellings.{without_extensions, IsWrittenAlike}

version_is : (element : Option DerElement) (value : Option Version) → SpellsOption IsVersion element value → element ≡ option_map version value
version_is None None is = refl
version_is None (Some value) is = absurd is
version_is (Some element) None is = absurd is
version_is (Some element) (Some value) is = ap Some is

spelled_list : (element : Option DerElement) (es : Option (List Extension)) → SpellsOption IsExtensions element es
    → SpellsOption (IsListOf 0x30 IsSpelling) element es
spelled_list None None is = tt
spelled_list None (Some es) is = absurd is
spelled_list (Some element) None is = absurd is
spelled_list (Some element) (Some es) is = list_spelling element es is

same_others : (f : TbsElements) (tbs : TbsCertificate) → AreTbsFields f tbs → without_extensions f ≡ without_extensions (tbs_elements tbs)
same_others f tbs p i = record {
  version = version_is f.version tbs.version p.version i;
  serial_number = p.serial_number i;
  signature = p.signature i;
  issuer = p.issuer i;
  validity = p.validity i;
  subject = p.subject i;
  subject_public_key_info = p.subject_public_key_info.0 i;
  issuer_unique_id = p.issuer_unique_id i;
  subject_unique_id = p.subject_unique_id i;
  extensions = None;
}

pub written_alike : (element : DerElement) (c : Certificate) → IsCertificate element c → IsWrittenAlike element c
written_alike element c is = record {
  elements = is.elements;
  is = is.is;
  alike = record {
    others = same_others is.elements.tbs c.tbs_certificate is.spelled.tbs;
    extensions = spelled_list is.elements.tbs.extensions c.tbs_certificate.extensions is.spelled.tbs.extensions;
    algorithm = is.spelled.algorithm;
    signature = is.spelled.signature;
  };
}
