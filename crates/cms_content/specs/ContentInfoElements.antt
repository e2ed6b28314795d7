-- EncapsulatedContentInfo ::= SEQUENCE { eContentType ContentType, eContent [0] EXPLICIT ANY
-- OPTIONAL } (RFC 5652 5.2, RFC 2315 7, which has any content there): by the elements of its fields
use Rattle.std.specs.Prelude.{◌∷◌, Option}
use Rattle.der_core.specs.DerElement.{DerElement}
use Rattle.der_core.specs.Elements.{sequence, optional_explicit}

-- the element with these fields
abbrev pub content_info_of : (content_type : DerElement) (content : Option DerElement) → DerElement
content_info_of content_type content = sequence (content_type ∷ optional_explicit 0xA0 content)
