-- Elements of the values (X.690 8): a tag and contents octets.
use Rattle.std.specs.Prelude.{ℕ, List}
use Rattle.der_core.specs.DerElement.{DerElement, Primitive}
use Rattle.asn1_types.specs.Values.{identifier_contents, integer_contents, bit_string_contents, ia5_contents}
use Rattle.asn1_types.specs.Time.{utc_contents, generalized_contents}
use Rattle.asn1_types.specs.declared.oid.ObjectIdentifier.{ObjectIdentifier}
use Rattle.asn1_types.specs.declared.integer.IntegerAsn1.{IntegerAsn1}
use Rattle.asn1_types.specs.declared.bit_string.BitString.{BitString}
use Rattle.asn1_types.specs.declared.ia5_string.Ia5String.{Ia5String}
use Rattle.asn1_types.specs.declared.utc_time.UTCTime.{UTCTime}
use Rattle.asn1_types.specs.declared.generalized_time.GeneralizedTime.{GeneralizedTime}
use Rattle.asn1_types.specs.declared.time.Time.{Time}
use Rattle.asn1_types.specs.declared.time.Time.TheVariants as times

-- an INTEGER with these contents octets (X.690 8.3)
abbrev pub integer_of : List ℕ → DerElement
integer_of contents = Primitive 0x02 contents

-- INTEGER (X.690 8.3)
abbrev pub integer : IntegerAsn1 → DerElement
integer value = Primitive 0x02 (integer_contents value)

-- BIT STRING: the count of unused bits, then the octets (X.690 8.6)
abbrev pub bit_string : BitString → DerElement
bit_string value = Primitive 0x03 (bit_string_contents value)

-- an OBJECT IDENTIFIER with these contents octets (X.690 8.19)
abbrev pub object_identifier_of : List ℕ → DerElement
object_identifier_of contents = Primitive 0x06 contents

-- OBJECT IDENTIFIER (X.690 8.19)
abbrev pub object_identifier : ObjectIdentifier → DerElement
object_identifier value = Primitive 0x06 (identifier_contents value)

-- IA5String (X.690 8.23)
abbrev pub ia5_string : Ia5String → DerElement
ia5_string value = Primitive 0x16 (ia5_contents value)

-- UTCTime (X.690 11.8)
abbrev pub utc_time : UTCTime → DerElement
utc_time moment = Primitive 0x17 (utc_contents moment)

-- GeneralizedTime (X.690 11.7)
abbrev pub generalized_time : GeneralizedTime → DerElement
generalized_time moment = Primitive 0x18 (generalized_contents moment)

-- Time ::= CHOICE { utcTime UTCTime, generalTime GeneralizedTime } (RFC 5280 4.1)
abbrev pub time : Time → DerElement
time (times.Utc moment) = utc_time moment
time (times.Generalized moment) = generalized_time moment
