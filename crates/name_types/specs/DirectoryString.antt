-- DirectoryString ::= CHOICE { teletexString TeletexString, printableString PrintableString,
-- universalString UniversalString, utf8String UTF8String, bmpString BMPString } (RFC 5280 4.1.2.4),
-- without universalString. Empty strings are accepted, too.
use Rattle.std.specs.Prelude.{◌≡◌, ◌⊎◌, ℕ, List}
use Rattle.der_core.specs.DerElement.{DerElement, Primitive}
use Rattle.name_types.specs.declared.directory_string.DirectoryString.{DirectoryString}
use Rattle.name_types.specs.declared.directory_string.DirectoryString.TheVariants as strings

-- the tag of a string's type (X.680 8.4, table 1)
abbrev pub string_tag : DirectoryString → ℕ
string_tag (strings.Utf8String octets) = 0x0C
string_tag (strings.PrintableString octets) = 0x13
string_tag (strings.TeletexString octets) = 0x14
string_tag (strings.BmpString octets) = 0x1E

-- its contents octets
abbrev pub string_octets : DirectoryString → List ℕ
string_octets (strings.Utf8String octets) = octets
string_octets (strings.PrintableString octets) = octets
string_octets (strings.TeletexString octets) = octets
string_octets (strings.BmpString octets) = octets

-- the element of a string
abbrev pub directory_string : DirectoryString → DerElement
directory_string string = Primitive (string_tag string) (string_octets string)

-- The tag is that of such a string.
abbrev pub IsStringTag : ℕ → Type 0
IsStringTag tag = (((tag ≡ 0x0C) ⊎ (tag ≡ 0x13)) ⊎ (tag ≡ 0x14)) ⊎ (tag ≡ 0x1E)
