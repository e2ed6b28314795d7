-- What is signed instead of a program, and the attributes that are signed with it (Windows
-- Authenticode Portable Executable Signature Format).
use Rattle.std.specs.Prelude.{ℕ, List, [], ◌∷◌, Option, Some}
use Rattle.std.specs.Option.{option_map}
use Rattle.asn1_types.specs.Elements.{object_identifier_of}
use Rattle.asn1_types.specs.declared.oids.TheConstants.{CONTENT_TYPE, MESSAGE_DIGEST, SPC_INDIRECT_DATA, SPC_PE_IMAGE_DATA, SPC_SP_OPUS_INFO}
use Rattle.cms_content.specs.ContentInfoElements.{content_info_of}
use Rattle.cms_types.specs.AttributeElement.{attribute_of}
use Rattle.cms_types.specs.DigestAlgorithm.{digest_algorithm}
use Rattle.cms_types.specs.OpusInfo.{opus_info_of}
use Rattle.cms_types.specs.Units.{text_units}
use Rattle.der_core.specs.DerElement.{DerElement, Primitive, row}
use Rattle.der_core.specs.Elements.{sequence, set, octet_string, explicit}
use Rattle.der_core.specs.Encoding.{encoding, encodings}
use Rattle.sig_core.specs.Digest.{digest_of}
use Rattle.sig_core.specs.ShaVariant.{hash_of}
use Rattle.sig_core.specs.declared.sha_variant.ShaVariant.{ShaVariant}

-- SpcPeImageData ::= SEQUENCE { flags SpcPeImageFlags, file [0] EXPLICIT SpcLink }, with no flags,
-- and an empty string for the file
abbrev pub image_value : DerElement
image_value =
    sequence (Primitive 0x03 (0 ∷ []) ∷ explicit 0xA0 (explicit 0xA2 (Primitive 0x80 [])) ∷ [])

-- the kind of file
abbrev pub image_element : DerElement
image_element = sequence (object_identifier_of SPC_PE_IMAGE_DATA.now ∷ image_value ∷ [])

-- the kind of file, and the digest of the file by the algorithm
abbrev pub data_kids : ShaVariant → List ℕ → List DerElement
data_kids hash file_hash =
    image_element ∷ sequence (digest_algorithm hash ∷ octet_string file_hash ∷ []) ∷ []

-- their element
abbrev pub data_element : ShaVariant → List ℕ → DerElement
data_element hash file_hash = sequence (data_kids hash file_hash)

-- the content with its type
abbrev pub program_content : ShaVariant → List ℕ → DerElement
program_content hash file_hash =
    content_info_of (object_identifier_of SPC_INDIRECT_DATA.now)
    (Some (data_element hash file_hash))

-- the digest of the content, over its contents octets (RFC 2315 9.3)
abbrev pub content_digest : ShaVariant → List ℕ → List ℕ
content_digest hash file_hash =
    digest_of (hash_of hash) (encodings (row (data_kids hash file_hash)))

-- what is said about the program: its name, and an empty link to more information
abbrev pub opus_element : Option (List ℕ) → DerElement
opus_element name =
    opus_info_of (option_map (λ (text : List ℕ). Primitive 0x80 (text_units text)) name)
    (Some (Primitive 0x80 []))

-- an attribute with one value (RFC 5652 5.3)
abbrev pub attribute_by : (oid : List ℕ) → DerElement → DerElement
attribute_by oid value = attribute_of oid (value ∷ [])

-- the attributes: content type, what is said about the program, message digest
abbrev pub program_attributes : (opus : DerElement) → (digest : List ℕ) → List DerElement
program_attributes opus digest =
    attribute_by CONTENT_TYPE.now (object_identifier_of SPC_INDIRECT_DATA.now) ∷
    attribute_by SPC_SP_OPUS_INFO.now opus ∷
    attribute_by MESSAGE_DIGEST.now (octet_string digest) ∷ []

-- the octets of attributes that are signed: those of their SET (RFC 2315 9.3)
abbrev pub attributes_message : List DerElement → List ℕ
attributes_message attributes = encoding (set attributes)
