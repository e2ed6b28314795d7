-- A string with extended key usages: SEQUENCE OF OBJECT IDENTIFIER (RFC 5280 4.2.1.12)
use Rattle.std.specs.Prelude.{◌≡◌, ℕ, List}
use Rattle.der_core.specs.DerElement.{DerElement}
use Rattle.der_core.specs.Each.{IsListOf}
use Rattle.der_core.specs.Structure.{IsWithin}
use Rattle.asn1_types.specs.Elements.{object_identifier}
use Rattle.asn1_types.specs.declared.oid.ObjectIdentifier.{ObjectIdentifier}

-- The element is that of the OID.
abbrev pub IsPurposeElement : DerElement → ObjectIdentifier → Type 0
IsPurposeElement element id = element ≡ object_identifier id

-- The element encodes the extended key usages, in order.
abbrev pub ArePurposes : DerElement → List ObjectIdentifier → Type 0
ArePurposes = IsListOf 0x30 IsPurposeElement

-- The octets are the encoding of an element that encodes the extended key usages, all of it.
abbrev pub ArePurposesIn : List ℕ → List ObjectIdentifier → Type 0
ArePurposesIn = IsWithin ArePurposes
