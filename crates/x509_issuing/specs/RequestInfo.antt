-- Which element encodes a CertificationRequestInfo (RFC 2986 4.1).
use Rattle.std.specs.Prelude.{◌≡◌, ℕ, List, [], ◌++◌, flat_map, Option, Some, None}
use Rattle.std.specs.Option.{option_map}
use Rattle.der_core.specs.DerElement.{DerElement}
use Rattle.der_core.specs.Encoding.{encoding}
use Rattle.name_types.specs.Name.{name}
use Rattle.key_types.specs.PublicKeyInfo.{public_key_info, inner_key, IsPublicKeyInfo}
use Rattle.x509_types.specs.Attribute.{AreAttributes, attribute_list, inner_attributes}
use Rattle.x509_types.specs.AttributeValues.{asked_kinds}
use Rattle.der_core.specs.Optional.{SpellsOption, inner_option}
use Rattle.x509_issuing.specs.RequestElements.{request_info_of}
use Rattle.x509_types.specs.declared.attribute.Attribute.{Attribute}
use Rattle.x509_issuing.specs.declared.request_info.CertificationRequestInfo.{CertificationRequestInfo}

-- the kinds of the extension values in them, if there are any attributes
abbrev pub asked_of : Option (List Attribute) → List ℕ
asked_of None = []
asked_of (Some attributes) = flat_map (λ a. asked_kinds a.value) attributes

-- The element encodes the signed part of a request.
pub record IsRequestInfo (element : DerElement) (info : CertificationRequestInfo) : Type 0 where
  pub key : DerElement
  pub attributes : Option DerElement
  pub is : element ≡ request_info_of (name info.subject) key attributes
  pub keyed : IsPublicKeyInfo key info.subject_public_key_info
  pub spelled : SpellsOption AreAttributes attributes info.attributes

-- the element that is written
abbrev pub request_info : CertificationRequestInfo → DerElement
request_info info =
    request_info_of (name info.subject) (public_key_info info.subject_public_key_info)
    (option_map attribute_list info.attributes)

-- the elements that it wraps in strings: that of the key, then those of the attributes
abbrev pub inner_request : CertificationRequestInfo → List DerElement
inner_request info =
    inner_key info.subject_public_key_info.subject_public_key
    ++ inner_option inner_attributes info.attributes

-- the kinds of the extension values in it, and its encoding
abbrev pub request_info_octets : CertificationRequestInfo → List ℕ
request_info_octets info = asked_of info.attributes ++ encoding (request_info info)
