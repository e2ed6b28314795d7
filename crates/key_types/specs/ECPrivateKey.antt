-- ECPrivateKey ::= SEQUENCE { version INTEGER { ecPrivkeyVer1(1) }, privateKey OCTET STRING,
-- parameters [0] ECParameters OPTIONAL, publicKey [1] BIT STRING OPTIONAL } (RFC 5915 3), whose
-- tags are explicit and whose parameters name a curve (RFC 5480 2.1.1)
use Rattle.std.specs.Prelude.{[], ◌∷◌, ◌++◌, Option}
use Rattle.std.specs.Option.{option_map}
use Rattle.der_core.specs.DerElement.{DerElement}
use Rattle.der_core.specs.Elements.{sequence, octet_string, optional_explicit}
use Rattle.asn1_types.specs.Elements.{object_identifier, bit_string, integer_of}
use Rattle.key_types.specs.declared.ec_private_key.ECPrivateKey.{ECPrivateKey}

-- the only version
abbrev pub ec_version : DerElement
ec_version = integer_of (1 ∷ [])

-- by the elements of its fields
abbrev pub ec_private_key_of : (private_key : DerElement)
    (parameters public_key : Option DerElement)
    → DerElement
ec_private_key_of private_key parameters public_key =
    sequence (ec_version ∷ private_key ∷
    (optional_explicit 0xA0 parameters ++ optional_explicit 0xA1 public_key))

-- the element of a key
abbrev pub ec_private_key : ECPrivateKey → DerElement
ec_private_key key =
    ec_private_key_of
    (octet_string key.private_key)
    (option_map object_identifier key.parameters)
    (option_map bit_string key.public_key)
