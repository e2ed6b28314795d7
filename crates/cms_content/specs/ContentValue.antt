-- Contents, by type.
use Rattle.std.specs.Prelude.{◌≡◌, ⊤, ℕ, List, ◌∷◌, Option, Some, None}
use Rattle.std.specs.Option.{option_map}
use Rattle.der_core.specs.DerElement.{DerElement}
use Rattle.der_core.specs.Elements.{octet_string}
use Rattle.der_core.specs.Encoding.{encoding}
use Rattle.cms_content.specs.ContentKind.{content_number}
use Rattle.cms_content.specs.CtlElement.{ctl}
use Rattle.cms_content.specs.IndirectData.{indirect_data_content}
use Rattle.cms_content.specs.declared.content_kind.ContentKind.{ContentKind}
use Rattle.cms_content.specs.declared.content_kind.ContentKind.TheVariants as kinds
use Rattle.cms_content.specs.declared.content_value.ContentValue.{ContentValue}
use Rattle.cms_content.specs.declared.content_value.ContentValue.TheVariants as contents

-- the kind of types that have such a content
abbrev pub kind_of_content : ContentValue → ContentKind
kind_of_content (contents.SpcIndirectDataContent content) = kinds.IndirectData
kind_of_content (contents.CertificateTrustList list) = kinds.CertificateTrustList
kind_of_content (contents.Data octets) = kinds.Data
kind_of_content (contents.Other kept) = kinds.Other

-- the element of a content; Data ::= OCTET STRING (RFC 2315 8)
abbrev pub content_value : ContentValue → DerElement
content_value (contents.SpcIndirectDataContent content) = indirect_data_content content
content_value (contents.CertificateTrustList list) = ctl list
content_value (contents.Data octets) = octet_string octets
content_value (contents.Other kept) = kept.element

-- The element is that of the content, which is of the kind.
abbrev pub IsContentOf : ContentKind → DerElement → ContentValue → Type 0
IsContentOf kind element content =
    (kind_of_content content ≡ kind) × (element ≡ content_value content)

-- A content, if any, is of the kind.
abbrev pub HasKind : ContentKind → Option ContentValue → Type 0
HasKind kind None = ⊤
HasKind kind (Some content) = kind_of_content content ≡ kind

-- The element is that of the content, which is of the kind, and both are present or absent.
abbrev pub SpellsContent : ContentKind → Option DerElement → Option ContentValue → Type 0
SpellsContent kind element content =
    HasKind kind content × (element ≡ option_map content_value content)

-- the encoding of a content
abbrev pub content_octets : ContentValue → List ℕ
content_octets content = content_number (kind_of_content content) ∷ encoding (content_value content)
