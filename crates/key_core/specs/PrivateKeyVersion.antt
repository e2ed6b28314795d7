-- Version ::= INTEGER { v1(0), v2(1) } (RFC 5958 2)
use Rattle.std.specs.Prelude.{[], ◌∷◌}
use Rattle.asn1_types.specs.Elements.{integer_of}
use Rattle.der_core.specs.DerElement.{DerElement}
use Rattle.key_core.specs.declared.private_key_version.PrivateKeyVersion.{PrivateKeyVersion}
use Rattle.key_core.specs.declared.private_key_version.PrivateKeyVersion.TheVariants as versions

-- the element of a version
abbrev pub key_version : PrivateKeyVersion → DerElement
key_version versions.V1 = integer_of (0 ∷ [])
key_version versions.V2 = integer_of (1 ∷ [])
