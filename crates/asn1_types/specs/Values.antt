-- What contracts see of a value: its contents octets, and the arcs of an OID.
use Rattle.std.specs.Prelude.{ℕ, List, ◌∷◌}
use Rattle.asn1_types.specs.declared.oid.ObjectIdentifier.{ObjectIdentifier}
use Rattle.asn1_types.specs.declared.oid.borrowed.LentIdentifier.{LentIdentifier}
use Rattle.asn1_types.specs.declared.integer.IntegerAsn1.{IntegerAsn1}
use Rattle.asn1_types.specs.declared.bit_string.BitString.{BitString}
use Rattle.asn1_types.specs.declared.ia5_string.Ia5String.{Ia5String}

-- The arcs of an OID.
abbrev pub arcs_of : ObjectIdentifier → List ℕ
arcs_of identifier = identifier.formed.arcs

-- The contents octets of an OID (X.690 8.19).
abbrev pub identifier_contents : ObjectIdentifier → List ℕ
identifier_contents identifier = identifier.contents

-- The arcs of a borrowed OID.
abbrev pub lent_arcs : LentIdentifier → List ℕ
lent_arcs identifier = identifier.formed.arcs

-- The contents octets of a borrowed OID.
abbrev pub lent_contents : LentIdentifier → List ℕ
lent_contents identifier = identifier.contents.now

-- The contents octets of an integer (X.690 8.3).
abbrev pub integer_contents : IntegerAsn1 → List ℕ
integer_contents integer = integer.contents

-- How many bits of the last octet of a bit string are unused.
abbrev pub unused_of : BitString → ℕ
unused_of bits = bits.unused

-- The octets that hold the bits of a bit string.
abbrev pub payload_of : BitString → List ℕ
payload_of bits = bits.payload

-- The contents octets of a bit string: the count of unused bits, and the octets that hold the bits
-- (X.690 8.6).
abbrev pub bit_string_contents : BitString → List ℕ
bit_string_contents bits = bits.unused ∷ bits.payload

-- The contents octets of an IA5String, which are its text (X.680 41).
abbrev pub ia5_contents : Ia5String → List ℕ
ia5_contents string = string.text
