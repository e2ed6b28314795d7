-- The authorityCertIssuer of an AuthorityKeyIdentifier (RFC 5280 4.2.1.1).
use Rattle.std.specs.Prelude.{◌≡◌, ⊤, Option, Some, None}
use Rattle.der_core.specs.DerElement.{DerElement, tag_of}

-- names, if there are any, have the tag [1] of a constructed element
abbrev pub HasIssuerTag : Option DerElement → Type 0
HasIssuerTag None = ⊤
HasIssuerTag (Some issuer) = tag_of issuer ≡ 0xA1
