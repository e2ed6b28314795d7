-- The element of an attribute, by the contents octets of its OID and by its values (RFC 5652 5.3).
use Rattle.std.specs.Prelude.{ℕ, List, [], ◌∷◌}
use Rattle.asn1_types.specs.Elements.{object_identifier_of}
use Rattle.der_core.specs.DerElement.{DerElement}
use Rattle.der_core.specs.Elements.{sequence, set}

-- Attribute ::= SEQUENCE { attrType OBJECT IDENTIFIER, attrValues SET OF AttributeValue }
abbrev pub attribute_of : List ℕ → List DerElement → DerElement
attribute_of oid values = sequence (object_identifier_of oid ∷ set values ∷ [])
