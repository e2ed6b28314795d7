-- Elements of the universal types that hold other elements or none (X.690 8), and those under an
-- explicit tag (X.690 8.14).
use Rattle.std.specs.Prelude.{ℕ, List, [], ◌∷◌, Option, Some, None}
use Rattle.der_core.specs.DerElement.{DerElement, Primitive, Constructed, row}

-- SEQUENCE and SEQUENCE OF (X.690 8.9, 8.10)
abbrev pub sequence : List DerElement → DerElement
sequence kids = Constructed 0x30 (row kids)

-- SET OF, its members in the order given (X.690 8.12)
abbrev pub set : List DerElement → DerElement
set kids = Constructed 0x31 (row kids)

-- NULL (X.690 8.8)
abbrev pub null : DerElement
null = Primitive 0x05 []

-- BIT STRING of whole octets: no bit of the last one is unused (X.690 8.6.2.2)
abbrev pub bit_octets : List ℕ → DerElement
bit_octets octets = Primitive 0x03 (0 ∷ octets)

-- OCTET STRING (X.690 8.7)
abbrev pub octet_string : List ℕ → DerElement
octet_string octets = Primitive 0x04 octets

-- an element under an explicit tag, around its own (X.690 8.14.2)
abbrev pub explicit : ℕ → DerElement → DerElement
explicit tag kid = Constructed tag (row (kid ∷ []))

-- a primitive element of the tag, if there are contents
abbrev pub optional_leaf : ℕ → Option (List ℕ) → List DerElement
optional_leaf tag None = []
optional_leaf tag (Some content) = Primitive tag content ∷ []

-- the element under the explicit tag, if there is one
abbrev pub optional_explicit : ℕ → Option DerElement → List DerElement
optional_explicit tag None = []
optional_explicit tag (Some kid) = explicit tag kid ∷ []
