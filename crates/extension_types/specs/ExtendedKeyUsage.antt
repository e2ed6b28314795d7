-- ExtKeyUsageSyntax ::= SEQUENCE SIZE (1..MAX) OF KeyPurposeId, KeyPurposeId ::= OBJECT IDENTIFIER
-- (RFC 5280 4.2.1.12); an empty one is accepted, too
use Rattle.der_core.specs.DerElement.{DerElement}
use Rattle.der_core.specs.Each.{list_element}
use Rattle.asn1_types.specs.Elements.{object_identifier}
use Rattle.extension_types.specs.declared.extended_key_usage.ExtendedKeyUsage.{ExtendedKeyUsage}

-- the element of an extended key usage
abbrev pub extended_key_usage : ExtendedKeyUsage → DerElement
extended_key_usage usage = list_element 0x30 object_identifier usage.purposes
