-- TimeStampRequest ::= SEQUENCE { countersignatureType OBJECT IDENTIFIER, attributes Attributes
-- OPTIONAL, content ContentInfo } (Windows Authenticode Portable Executable Signature Format),
-- without attributes, of which none are defined
use Rattle.std.specs.Prelude.{[], ◌∷◌}
use Rattle.der_core.specs.DerElement.{DerElement}
use Rattle.der_core.specs.Elements.{sequence}
use Rattle.asn1_types.specs.Elements.{object_identifier}
use Rattle.cms_content.specs.ContentInfo.{content_info}
use Rattle.cms_content.specs.declared.timestamp_request.TimestampRequest.{TimestampRequest}

-- the element of a request
abbrev pub timestamp_request : TimestampRequest → DerElement
timestamp_request request =
    sequence (object_identifier request.countersignature_type ∷ content_info request.content ∷ [])
