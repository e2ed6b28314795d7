-- Which element encodes a TBSCertificate (RFC 5280 4.1, 4.1.2).
use Rattle.std.specs.Prelude.{◌≡◌, ℕ, List, ◌++◌, flat_map}
use Rattle.std.specs.Option.{option_map}
use Rattle.der_core.specs.DerElement.{DerElement}
use Rattle.der_core.specs.Encoding.{encoding}
use Rattle.der_core.specs.Each.{IsListOf, list_element}
use Rattle.asn1_types.specs.Values.{integer_contents}
use Rattle.name_types.specs.Name.{name, IsName}
use Rattle.key_types.specs.AlgorithmIdentifier.{algorithm_identifier}
use Rattle.key_types.specs.PublicKeyInfo.{public_key_info, inner_key, IsPublicKeyInfo}
use Rattle.x509_types.specs.Version.{version}
use Rattle.x509_types.specs.ExtensionView.{inner_value}
use Rattle.x509_types.specs.Extension.{extension, value_kinds, IsExtension}
use Rattle.der_core.specs.Optional.{SpellsOption, inner_option}
use Rattle.x509_types.specs.TbsElements.{TbsElements, tbs_of}
use Rattle.x509_types.specs.Validity.{validity}
use Rattle.x509_types.specs.declared.certificate.tbs_certificate.TbsCertificate.{TbsCertificate}
use Rattle.x509_types.specs.declared.certificate.version.Version.{Version}
use Rattle.x509_types.specs.declared.extension.Extension.{Extension}

-- Version ::= INTEGER
abbrev pub IsVersion : DerElement → Version → Type 0
IsVersion element value = element ≡ version value

-- Extensions ::= SEQUENCE SIZE (1..MAX) OF Extension: an empty one is accepted, too
abbrev pub IsExtensions : DerElement → List Extension → Type 0
IsExtensions = IsListOf 0x30 IsExtension

-- the element that is written for extensions
abbrev pub extensions : List Extension → DerElement
extensions = list_element 0x30 extension

-- the elements that extensions wrap in strings
abbrev pub inner_extensions : List Extension → List DerElement
inner_extensions = flat_map (λ e. inner_value e.extn_value)

-- Each element encodes the value of its field.
pub record AreTbsFields (f : TbsElements) (tbs : TbsCertificate) : Type 0 where
  pub version : SpellsOption IsVersion f.version tbs.version
  pub serial_number : f.serial_number ≡ integer_contents tbs.serial_number
  pub signature : f.signature ≡ algorithm_identifier tbs.signature
  pub issuer : IsName f.issuer tbs.issuer
  pub validity : f.validity ≡ validity tbs.validity
  pub subject : IsName f.subject tbs.subject
  pub subject_public_key_info : IsPublicKeyInfo f.subject_public_key_info
      tbs.subject_public_key_info
  pub issuer_unique_id : f.issuer_unique_id ≡ tbs.issuer_unique_id
  pub subject_unique_id : f.subject_unique_id ≡ tbs.subject_unique_id
  pub extensions : SpellsOption IsExtensions f.extensions tbs.extensions

-- Both have the same OPTIONAL fields.
pub record HasSameOptions (a b : TbsCertificate) : Type 0 where
  pub version : a.version ≡ b.version
  pub issuer_unique_id : a.issuer_unique_id ≡ b.issuer_unique_id
  pub subject_unique_id : a.subject_unique_id ≡ b.subject_unique_id
  pub extensions : a.extensions ≡ b.extensions

-- The element encodes the TBSCertificate.
pub record IsTbsCertificate (element : DerElement) (tbs : TbsCertificate) : Type 0 where
  pub elements : TbsElements
  pub is : element ≡ tbs_of elements
  pub spelled : AreTbsFields elements tbs

-- the elements that are written for the fields
abbrev pub tbs_elements : TbsCertificate → TbsElements
tbs_elements tbs = record {
  version = option_map version tbs.version;
  serial_number = integer_contents tbs.serial_number;
  signature = algorithm_identifier tbs.signature;
  issuer = name tbs.issuer;
  validity = validity tbs.validity;
  subject = name tbs.subject;
  subject_public_key_info = public_key_info tbs.subject_public_key_info;
  issuer_unique_id = tbs.issuer_unique_id;
  subject_unique_id = tbs.subject_unique_id;
  extensions = option_map extensions tbs.extensions;
}

-- the element that is written
abbrev pub tbs_certificate : TbsCertificate → DerElement
tbs_certificate tbs = tbs_of (tbs_elements tbs)

-- the elements that it wraps in strings: that of the key, then those of the extensions
abbrev pub inner_tbs : TbsCertificate → List DerElement
inner_tbs tbs =
    inner_key tbs.subject_public_key_info.subject_public_key
    ++ inner_option inner_extensions tbs.extensions

-- the kinds of its extension values, and its encoding
abbrev pub tbs_octets : TbsCertificate → List ℕ
tbs_octets tbs = value_kinds tbs.extensions ++ encoding (tbs_certificate tbs)
