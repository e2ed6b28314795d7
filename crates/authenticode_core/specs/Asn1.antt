-- Elements of the plain form by their contents octets (X.690 8). The functions of `asn1_types` take
-- values, and the form has contents that no value has.
use Rattle.std.specs.Prelude.{ℕ, ◌+◌, List}
use Rattle.der_core.specs.DerElement.{DerElement, Primitive, Constructed, row}

-- a constructed element of the context-specific class (X.690 8.1.2.2)
abbrev pub context : ℕ → List DerElement → DerElement
context number kids = Constructed (0xA0 + number) (row kids)

-- a UTF8String (X.690 8.23), of any octets
abbrev pub utf8_string_of : List ℕ → DerElement
utf8_string_of text = Primitive 0x0C text

-- a UTCTime (X.690 8.25), of any octets
abbrev pub utc_time_of : List ℕ → DerElement
utc_time_of text = Primitive 0x17 text
