-- KeyUsage ::= BIT STRING { digitalSignature (0), nonRepudiation (1), keyEncipherment (2),
-- dataEncipherment (3), keyAgreement (4), keyCertSign (5), cRLSign (6), encipherOnly (7),
-- decipherOnly (8) } (RFC 5280 4.2.1.3)
use Rattle.std.specs.Prelude.{◌≡◌, ◌↔◌, ℕ, ◌+◌, ◌-◌, ◌*◌, ◌/◌, ◌%◌, ◌^◌, ◌<◌, ◌≤◌, List, length, slice_index}
use Rattle.der_core.specs.DerElement.{DerElement}
use Rattle.asn1_types.specs.Elements.{bit_string}
use Rattle.asn1_types.specs.Values.{payload_of, unused_of}
use Rattle.asn1_types.specs.declared.bit_string.BitString.{BitString}
use Rattle.extension_types.specs.declared.key_usage.KeyUsage.{KeyUsage}

-- the element of a key usage
abbrev pub key_usage : KeyUsage → DerElement
key_usage usage = bit_string usage.bits

-- the bit at an index in octets, counted from the highest bit of the first octet (X.690 8.6.2.1)
abbrev pub octet_bit : List ℕ → ℕ → ℕ
octet_bit octets number = slice_index octets (number / 8) / 2 ^ (7 - number % 8) % 2

-- The string has a bit at this index, and it is 1.
pub record HasBit (bits : BitString) (number : ℕ) : Type 0 where
  pub within : number + unused_of bits < 8 * length (payload_of bits)
  pub one : octet_bit (payload_of bits) number ≡ 1

-- The bits are those of the flags, bit i for 1 << i.
pub record IsUsageOf (flags : ℕ) (bits : BitString) : Type 0 where
  pub flagged : (number : ℕ) → number ≤ 8 → HasBit bits number ↔ (flags / 2 ^ number % 2 ≡ 1)
  -- there are no others
  pub only : (number : ℕ) → HasBit bits number → number ≤ 8
  -- the last bit of the string is 1 (X.690 11.2.2)
  pub last : (number : ℕ) → number + unused_of bits + 1 ≡ 8 * length (payload_of bits)
      → HasBit bits number
  -- the unused bits are 0 (X.690 11.2.1)
  pub padded : (number : ℕ) → number < 8 * length (payload_of bits)
      → octet_bit (payload_of bits) number ≡ 1 → HasBit bits number

-- the bits of a key usage
abbrev pub usage_bits : KeyUsage → BitString
usage_bits usage = usage.bits
