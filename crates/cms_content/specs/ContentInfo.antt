-- The element of a content with its type (RFC 5652 5.2, RFC 2315 7).
use Rattle.std.specs.Option.{option_map}
use Rattle.der_core.specs.DerElement.{DerElement}
use Rattle.asn1_types.specs.Elements.{object_identifier}
use Rattle.cms_content.specs.ContentValue.{content_value}
use Rattle.cms_content.specs.ContentInfoElements.{content_info_of}
use Rattle.cms_content.specs.declared.content_info.EncapsulatedContentInfo.{EncapsulatedContentInfo}

-- the element of a content with its type
abbrev pub content_info : EncapsulatedContentInfo → DerElement
content_info info =
    content_info_of (object_identifier info.content_type) (option_map content_value info.content)
