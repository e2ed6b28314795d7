-- The fields of owned signed data (RFC 2315 9.1, 9.2; Windows Authenticode Portable Executable
-- Signature Format).
use Rattle.std.specs.Prelude.{ℕ, List, [], ◌∷◌, Option, Some, None}
use Rattle.std.specs.Option.{option_map, unwrap_or}
use Rattle.cms_content.specs.declared.content_value.ContentValue.{ContentValue}
use Rattle.cms_content.specs.declared.content_value.ContentValue.TheVariants as contents
use Rattle.cms_types.specs.SignedAttributesElement.{attributes_of}
use Rattle.cms_types.specs.declared.signer_info.SignerInfo.{SignerInfo}
use Rattle.cms_types.specs.declared.unsigned_attribute.UnsignedAttribute.{UnsignedAttribute}
use Rattle.x509_types.specs.declared.attribute.Attribute.{Attribute}

-- the digest of the file in a content, if this is indirect data
abbrev pub file_hash_of : ContentValue → Option (List ℕ)
file_hash_of (contents.SpcIndirectDataContent content) = Some content.message_digest.digest
file_hash_of _ = None

-- and none without a content
abbrev pub file_hash_in : Option ContentValue → Option (List ℕ)
file_hash_in None = None
file_hash_in (Some content) = file_hash_of content

-- the signed attributes of the first signer, an empty list if its field is absent; None only
-- without a signer
abbrev pub signed_attributes_in : List SignerInfo → Option (List Attribute)
signed_attributes_in [] = None
signed_attributes_in (signer ∷ others) =
    Some (unwrap_or (option_map attributes_of signer.signed_attrs) [])

-- the same for its unsigned attributes
abbrev pub unsigned_attributes_in : List SignerInfo → Option (List UnsignedAttribute)
unsigned_attributes_in [] = None
unsigned_attributes_in (signer ∷ others) = Some (unwrap_or signer.unsigned_attrs [])
