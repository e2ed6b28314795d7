-- Extended key usages in a string are written as the octets that they were read from.
use Rattle.der_core.specs.DerElement.{DerElement}
use Rattle.der_core.specs.Elements.{octet_string}
use Rattle.cms_content.specs.declared.held_purposes.HeldPurposes.{HeldPurposes}

-- the OCTET STRING of the octets
abbrev pub held_purposes : HeldPurposes → DerElement
held_purposes value = octet_string value.octets
