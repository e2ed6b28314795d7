-- Owned timestamp requests (Windows Authenticode Portable Executable Signature Format; RFC 5652 4,
-- 5.2).
use Rattle.std.specs.Prelude.{◌≡◌, ℕ, List, [], ◌∷◌, Option, Some, None}
use Rattle.asn1_types.specs.Elements.{object_identifier_of}
use Rattle.der_core.specs.DerElement.{DerElement}
use Rattle.der_core.specs.Elements.{octet_string, sequence}
use Rattle.asn1_types.specs.declared.oids.TheConstants.{DATA, SPC_TIME_STAMP_REQUEST}
use Rattle.cms_content.specs.ContentInfoElements.{content_info_of}
use Rattle.cms_content.specs.TimestampRequest.{timestamp_request}
use Rattle.cms_content.specs.declared.content_value.ContentValue.{ContentValue}
use Rattle.cms_content.specs.declared.content_value.ContentValue.TheVariants as contents
use Rattle.cms_content.specs.declared.timestamp_request.TimestampRequest.{TimestampRequest}
use Rattle.authenticode_signature.specs.declared.timestamp_request.TimestampRequest.{TimestampRequest as Request}

-- the element is that of the value
abbrev pub IsRequestOf : DerElement → TimestampRequest → Type 0
IsRequestOf element value = element ≡ timestamp_request value

-- the element that is written
abbrev pub requested : Request → DerElement
requested r = timestamp_request r.request

-- the request for octets: their type is data
abbrev pub asking_for : List ℕ → DerElement
asking_for octets =
    sequence (object_identifier_of SPC_TIME_STAMP_REQUEST.now ∷
    content_info_of (object_identifier_of DATA.now) (Some (octet_string octets)) ∷ [])

-- the octets of a content of type data
abbrev pub data_of : ContentValue → Option (List ℕ)
data_of (contents.Data octets) = Some octets
data_of _ = None

-- and none without a content
abbrev pub data_in : Option ContentValue → Option (List ℕ)
data_in None = None
data_in (Some content) = data_of content
