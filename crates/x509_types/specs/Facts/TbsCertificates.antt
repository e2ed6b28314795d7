-- TBSCertificates: an element encodes at most one, and what is written for one encodes it.
use Rattle.std.proofs.Common.{◌≡◌, Option, Some, None, refl, ap, sym, subst, ◌∙◌}
use Rattle.std.specs.Option.{option_map}
use Rattle.der_core.specs.DerElement.{DerElement, Primitive}
use Rattle.der_core.specs.Encoding.{IsWellFormed}
use Rattle.der_core.specs.Borrowed.{AreDer}
use Rattle.der_core.specs.Structure.{IsGrammar}
use Rattle.der_core.specs.Facts.Fronts.{formed_encoding_once}
use Rattle.der_core.specs.Facts.Grammars.{AreDer-append, AreDer-front, AreDer-back, sequences}
use Rattle.asn1_types.specs.Values.{integer_contents}
use Rattle.asn1_types.specs.Elements.{integer}
use Rattle.asn1_types.specs.Facts.Elements.{integers}
use Rattle.asn1_types.specs.declared.integer.IntegerAsn1.{IntegerAsn1}
use Rattle.name_types.specs.Name.{name}
use Rattle.name_types.specs.Facts.Names.{names}
use Rattle.key_types.specs.AlgorithmIdentifier.{algorithm_identifier}
use Rattle.key_types.specs.PublicKeyInfo.{inner_key}
use Rattle.key_types.specs.Facts.Algorithms.{algorithms}
use Rattle.key_types.specs.Facts.Keys.{public_key_infos, infos_once}
use Rattle.x509_types.specs.Version.{version}
use Rattle.x509_types.specs.ExtensionView.{inner_value}
use Rattle.x509_types.specs.Extension.{extension, value_kinds, IsExtension}
use Rattle.der_core.specs.Optional.{SpellsOption, inner_option}
use Rattle.x509_types.specs.TbsElements.{TbsElements}
use Rattle.x509_types.specs.TbsCertificate.{IsVersion, IsExtensions, extensions, inner_extensions, AreTbsFields}
use Rattle.x509_types.specs.TbsCertificate.{IsTbsCertificate, tbs_elements, tbs_certificate, tbs_octets, inner_tbs}
use Rattle.x509_types.specs.Facts.Extensions.{all_extensions}
use Rattle.x509_types.specs.Facts.DeterminedExtensions.{options_determined, kinds_and_octets}
use Rattle.der_core.specs.Facts.Optional.{option_once, option_bounded, option_spelled, options_once, option_formed}
use Rattle.x509_types.specs.Facts.TbsElements.{same_elements, elements_formed}
use Rattle.x509_types.specs.Facts.Versions.{versions, versions_once}
use Rattle.x509_types.specs.Facts.Validities.{validities, validities_once}
use Rattle.x509_types.specs.declared.certificate.tbs_certificate.TbsCertificate.{TbsCertificate}
use Rattle.x509_types.specs.declared.certificate.version.Version.{Version}
use Rattle.x509_types.specs.declared.extension.Extension.{Extension}

pub extension_lists : IsGrammar IsExtensions extensions inner_extensions
extension_lists = sequences IsExtension extension (λ (e : Extension). inner_value e.extn_value) all_extensions

same_integer : (a b : IntegerAsn1) → integer_contents a ≡ integer_contents b → a ≡ b
same_integer a b e = integers.once (integer a) a b refl (ap (Primitive 0x02) e)

-- Two values have the same fields.
pub record AreSame (a b : TbsCertificate) : Type 0 where
  pub version : a.version ≡ b.version
  pub serial_number : a.serial_number ≡ b.serial_number
  pub signature : a.signature ≡ b.signature
  pub issuer : a.issuer ≡ b.issuer
  pub validity : a.validity ≡ b.validity
  pub subject : a.subject ≡ b.subject
  pub key : a.subject_public_key_info ≡ b.subject_public_key_info
  pub issuer_unique_id : a.issuer_unique_id ≡ b.issuer_unique_id
  pub subject_unique_id : a.subject_unique_id ≡ b.subject_unique_id
  pub extensions : a.extensions ≡ b.extensions

pub same_tbs : (a b : TbsCertificate) → AreSame a b → a ≡ b
same_tbs a b same i = record {
  version = same.version i;
  serial_number = same.serial_number i;
  signature = same.signature i;
  issuer = same.issuer i;
  validity = same.validity i;
  subject = same.subject i;
  subject_public_key_info = same.key i;
  issuer_unique_id = same.issuer_unique_id i;
  subject_unique_id = same.subject_unique_id i;
  extensions = same.extensions i;
}

-- the same elements encode the same fields
fields_once : (f : TbsElements) (a b : TbsCertificate) → AreTbsFields f a → AreTbsFields f b → a ≡ b
fields_once f a b p q =
    same_tbs a b (record {
      version = option_once IsVersion versions.once f.version a.version b.version p.version q.version;
      serial_number = same_integer a.serial_number b.serial_number (sym p.serial_number ∙ q.serial_number);
      signature = algorithms.once f.signature a.signature b.signature p.signature q.signature;
      issuer = names.once f.issuer a.issuer b.issuer p.issuer q.issuer;
      validity = validities.once f.validity a.validity b.validity p.validity q.validity;
      subject = names.once f.subject a.subject b.subject p.subject q.subject;
      key = public_key_infos.once f.subject_public_key_info a.subject_public_key_info b.subject_public_key_info p.subject_public_key_info
          q.subject_public_key_info;
      issuer_unique_id = sym p.issuer_unique_id ∙ q.issuer_unique_id;
      subject_unique_id = sym p.subject_unique_id ∙ q.subject_unique_id;
      extensions = option_once IsExtensions extension_lists.once f.extensions a.extensions b.extensions p.extensions q.extensions;
    })

-- an element encodes at most one
tbs_once : (element : DerElement) (a b : TbsCertificate) → IsTbsCertificate element a → IsTbsCertificate element b → a ≡ b
tbs_once element a b p q =
    let same = same_elements p.elements q.elements (sym p.is ∙ q.is) in
    fields_once q.elements a b (subst (λ (f : TbsElements). AreTbsFields f a) same p.spelled) q.spelled

-- what is read of elements of fields
pub tbs_bounded : (f : TbsElements) (tbs : TbsCertificate) → AreTbsFields f tbs → AreDer (inner_tbs tbs)
tbs_bounded f tbs p =
    AreDer-append (inner_key tbs.subject_public_key_info.subject_public_key) (inner_option inner_extensions tbs.extensions)
    (public_key_infos.bounded f.subject_public_key_info tbs.subject_public_key_info p.subject_public_key_info)
    (option_bounded IsExtensions inner_extensions extension_lists.bounded f.extensions tbs.extensions p.extensions)

version_spelled : (value : Option Version) → SpellsOption IsVersion (option_map version value) value
version_spelled None = tt
version_spelled (Some value) = refl

-- what is written encodes the fields
tbs_spelled : (tbs : TbsCertificate) → AreDer (inner_tbs tbs) → AreTbsFields (tbs_elements tbs) tbs
tbs_spelled tbs der =
    let key = inner_key tbs.subject_public_key_info.subject_public_key in
    let others = inner_option inner_extensions tbs.extensions in
    record {
      version = version_spelled tbs.version;
      serial_number = refl;
      signature = refl;
      issuer = refl;
      validity = refl;
      subject = refl;
      subject_public_key_info = public_key_infos.spelled tbs.subject_public_key_info (AreDer-front key others der);
      issuer_unique_id = refl;
      subject_unique_id = refl;
      extensions = option_spelled IsExtensions extensions inner_extensions extension_lists.spelled tbs.extensions (AreDer-back key others der);
    }

-- values whose extension values have the same kinds are determined by their elements
pub tbs_determined : (a b : TbsCertificate) → value_kinds a.extensions ≡ value_kinds b.extensions → tbs_certificate a ≡ tbs_certificate b → a ≡ b
tbs_determined a b kinds e =
    let same = same_elements (tbs_elements a) (tbs_elements b) e in
    same_tbs a b (record {
      version = options_once version versions_once a.version b.version (ap (λ (f : TbsElements). f.version) same);
      serial_number = same_integer a.serial_number b.serial_number (ap (λ (f : TbsElements). f.serial_number) same);
      signature = algorithms.once (algorithm_identifier a.signature) a.signature b.signature refl (ap (λ (f : TbsElements). f.signature) same);
      issuer = names.once (name a.issuer) a.issuer b.issuer refl (ap (λ (f : TbsElements). f.issuer) same);
      validity = validities_once a.validity b.validity (ap (λ (f : TbsElements). f.validity) same);
      subject = names.once (name a.subject) a.subject b.subject refl (ap (λ (f : TbsElements). f.subject) same);
      key = infos_once a.subject_public_key_info b.subject_public_key_info (ap (λ (f : TbsElements). f.subject_public_key_info) same);
      issuer_unique_id = ap (λ (f : TbsElements). f.issuer_unique_id) same;
      subject_unique_id = ap (λ (f : TbsElements). f.subject_unique_id) same;
      extensions = options_determined a.extensions b.extensions kinds (ap (λ (f : TbsElements). f.extensions) same);
    })

pub tbs_formed : (tbs : TbsCertificate) → IsWellFormed (tbs_certificate tbs)
tbs_formed tbs =
    elements_formed (tbs_elements tbs) (record {
      version = option_formed version versions.formed tbs.version;
      signature = algorithms.formed tbs.signature;
      issuer = names.formed tbs.issuer;
      validity = validities.formed tbs.validity;
      subject = names.formed tbs.subject;
      key = public_key_infos.formed tbs.subject_public_key_info;
      extensions = option_formed extensions extension_lists.formed tbs.extensions;
    })

pub tbs_certificates : IsGrammar IsTbsCertificate tbs_certificate inner_tbs
tbs_certificates = record {
  once = tbs_once;
  bounded = λ element tbs p. tbs_bounded p.elements tbs p.spelled;
  spelled = λ tbs der. record { elements = tbs_elements tbs; is = refl; spelled = tbs_spelled tbs der };
  formed = tbs_formed;
}

pub tbs_by_octets : (a b : TbsCertificate) → tbs_octets a ≡ tbs_octets b → a ≡ b
tbs_by_octets a b e =
    let parts = kinds_and_octets a.extensions b.extensions _ _ e in
    tbs_determined a b parts.0 (formed_encoding_once (tbs_certificate a) (tbs_certificate b) (tbs_formed a) (tbs_formed b) parts.1)
