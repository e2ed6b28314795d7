-- ContentInfo of signed data (RFC 5652 3, RFC 2315 7).
use Rattle.std.specs.Prelude.{[], ◌∷◌}
use Rattle.asn1_types.specs.Elements.{object_identifier_of}
use Rattle.der_core.specs.DerElement.{DerElement}
use Rattle.der_core.specs.Elements.{sequence, explicit}
use Rattle.asn1_types.specs.declared.oids.TheConstants.{SIGNED_DATA}

-- ContentInfo ::= SEQUENCE { contentType ContentType, content [0] EXPLICIT ANY DEFINED BY
-- contentType }, here of the type of signed data
abbrev pub pkcs7_of : DerElement → DerElement
pkcs7_of signed_data =
    sequence (object_identifier_of SIGNED_DATA.now ∷ explicit 0xA0 signed_data ∷ [])
