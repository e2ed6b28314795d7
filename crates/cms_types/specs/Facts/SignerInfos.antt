-- Signers: different ones have different elements, each well formed.
use Rattle.std.proofs.Common.{◌≡◌, List, [], Option, Some, None, refl, ap, arith}
use Rattle.std.specs.Option.{option_map}
use mathlib.Core.Logic.{∥∥₁_elim}
use Rattle.std.proofs.Props.{props}
use Rattle.der_core.specs.DerElement.{DerElement, tag_of}
use Rattle.der_core.specs.Encoding.{IsWellFormed}
use Rattle.der_core.specs.Each.{list_element}
use Rattle.der_core.specs.Elements.{octet_string}
use Rattle.der_core.specs.Structure.{IsGrammar}
use Rattle.der_core.specs.Facts.Grammars.{printed, list_once, each_formed}
use Rattle.der_core.specs.Facts.OctetStrings.{octet_strings}
use Rattle.key_types.specs.AlgorithmIdentifier.{algorithm_identifier}
use Rattle.key_types.specs.Facts.Algorithms.{algorithms}
use Rattle.cms_types.specs.SignerIdentifier.{signer_identifier}
use Rattle.cms_types.specs.SignedAttributesElement.{signed_attributes}
use Rattle.cms_types.specs.SignerElements.{SignerElements}
use Rattle.cms_types.specs.Levels.{OfOption}
use Rattle.cms_types.specs.SignerInfo.{signer_elements, signer_info}
use Rattle.cms_types.specs.UnsignedAttribute.{unsigned_attribute}
use Rattle.cms_types.specs.Facts.Signed.{all_signed_attributes}
use Rattle.cms_types.specs.Facts.SignerElements.{IsDetermined, same_signer, signer_formed}
use Rattle.cms_types.specs.Facts.SignerIdentifiers.{signer_identifiers}
use Rattle.cms_types.specs.Facts.UnsignedAttributes.{unsigned_attributes}
use Rattle.cms_types.specs.Facts.Versions.{versions, versions_once}
use Rattle.der_core.specs.Facts.Optional.{options_once}
use Rattle.cms_types.specs.Facts.Options.{options_formed}
use Rattle.cms_types.specs.declared.signer_info.SignerInfo.{SignerInfo}
use Rattle.cms_types.specs.declared.signer_info.signed_attributes.SignedAttributes.{SignedAttributes}
use Rattle.cms_types.specs.declared.unsigned_attribute.UnsignedAttribute.{UnsignedAttribute}

tag_prop : (x : DerElement) → IsProp (tag_of x ≡ 0xA0)
tag_prop x = hlevel props

-- signed attributes have their tag
signed_tag : (a : SignedAttributes) → tag_of (signed_attributes a) ≡ 0xA0
signed_tag a = ∥∥₁_elim a.are (tag_prop a.element.element) (λ list. ap tag_of list.holds)

signed_tags : (a : Option SignedAttributes) → OfOption (λ e. tag_of e ≡ 0xA0) (option_map signed_attributes a)
signed_tags None = tt
signed_tags (Some a) = signed_tag a

pub determined_signer : (s : SignerInfo) → IsDetermined (signer_elements s)
determined_signer s = record { signed_attrs = signed_tags s.signed_attrs; signature_algorithm = λ e. omega (arith, e) }

pub same_unsigned : (a b : List UnsignedAttribute) → list_element 0xA1 unsigned_attribute a ≡ list_element 0xA1 unsigned_attribute b → a ≡ b
same_unsigned a b e = list_once 0xA1 unsigned_attribute (λ x y e. unsigned_attributes.once (unsigned_attribute x) x y refl e) a b e

-- the elements of its fields determine a signer
pub signer_once : (a b : SignerInfo) → signer_elements a ≡ signer_elements b → a ≡ b
signer_once a b same =
    let version = versions_once a.version b.version (ap (λ (f : SignerElements). f.version) same) in
    let sid = signer_identifiers.once (signer_identifier a.sid) a.sid b.sid refl (ap (λ (f : SignerElements). f.sid) same) in
    let digest_algorithm = algorithms.once (algorithm_identifier a.digest_algorithm) a.digest_algorithm b.digest_algorithm refl
    (ap (λ (f : SignerElements). f.digest_algorithm) same) in
    let signed_attrs = options_once signed_attributes (λ x y e. all_signed_attributes.once (signed_attributes x) x y refl e) a.signed_attrs b.signed_attrs
    (ap (λ (f : SignerElements). f.signed_attrs) same) in
    let signature_algorithm = algorithms.once (algorithm_identifier a.signature_algorithm) a.signature_algorithm b.signature_algorithm refl
    (ap (λ (f : SignerElements). f.signature_algorithm) same) in
    let signature = octet_strings.once (octet_string a.signature) a.signature b.signature refl (ap (λ (f : SignerElements). f.signature) same) in
    let unsigned_attrs =
    options_once (list_element 0xA1 unsigned_attribute) same_unsigned a.unsigned_attrs b.unsigned_attrs (ap (λ (f : SignerElements). f.unsigned_attrs) same) in
    λ i. record {
      version = version i;
      sid = sid i;
      digest_algorithm = digest_algorithm i;
      signed_attrs = signed_attrs i;
      signature_algorithm = signature_algorithm i;
      signature = signature i;
      unsigned_attrs = unsigned_attrs i;
    }

infos_once : (a b : SignerInfo) → signer_info a ≡ signer_info b → a ≡ b
infos_once a b e = signer_once a b (same_signer (signer_elements a) (signer_elements b) (determined_signer a) (determined_signer b) e)

list_formed : (list : List UnsignedAttribute) → IsWellFormed (list_element 0xA1 unsigned_attribute list)
list_formed list = ((omega arith, omega arith, omega arith), refl, each_formed unsigned_attribute unsigned_attributes.formed list)

info_formed : (s : SignerInfo) → IsWellFormed (signer_info s)
info_formed s =
    signer_formed (signer_elements s) (record {
      version = versions.formed s.version;
      sid = signer_identifiers.formed s.sid;
      digest_algorithm = algorithms.formed s.digest_algorithm;
      signed_attrs = options_formed signed_attributes all_signed_attributes.formed s.signed_attrs;
      signature_algorithm = algorithms.formed s.signature_algorithm;
      signature = octet_strings.formed s.signature;
      unsigned_attrs = options_formed (list_element 0xA1 unsigned_attribute) list_formed s.unsigned_attrs;
    })

pub signer_infos : IsGrammar (λ element s. element ≡ signer_info s) signer_info (λ s. [])
signer_infos = printed signer_info infos_once info_formed
