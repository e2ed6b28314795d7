-- A borrowed content with its type.
use Rattle.std.specs.Prelude.{◌≡◌, ℕ, List, Option}
use Rattle.asn1_types.specs.Elements.{object_identifier_of}
use Rattle.der_core.specs.DerElement.{DerElement}
use Rattle.cms_content.specs.ContentInfoElements.{content_info_of}
use Rattle.cms_content.specs.ContentInfo.{content_info}
use Rattle.cms_content.specs.declared.content_info.EncapsulatedContentInfo.{EncapsulatedContentInfo}

-- the element with these contents octets of an OID, and a content
abbrev pub lent_content : List ℕ → Option DerElement → DerElement
lent_content content_type content = content_info_of (object_identifier_of content_type) content

-- it encodes a content with its type
abbrev pub HasContent : List ℕ → Option DerElement → Type 0
HasContent content_type content =
    (info : EncapsulatedContentInfo) × (lent_content content_type content ≡ content_info info)
