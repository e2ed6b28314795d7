-- What contracts see of a key.
use Rattle.std.specs.Prelude.{Option}
use Rattle.asn1_types.specs.declared.bit_string.BitString.{BitString}
use Rattle.key_types.specs.declared.key_info.SubjectPublicKeyInfo.{SubjectPublicKeyInfo}
use Rattle.key_core.specs.declared.private_key_info.PrivateKeyInfo.{PrivateKeyInfo}
use Rattle.key_core.specs.declared.private_key.PrivateKey.{PrivateKey}
use Rattle.key_core.specs.declared.public_key.PublicKey.{PublicKey}

-- The SubjectPublicKeyInfo of a public key (RFC 5280 4.1.2.7).
abbrev pub info_of : PublicKey → SubjectPublicKeyInfo
info_of key = key.info

-- The container of a private key (RFC 5208 5, RFC 5958 2).
abbrev pub container_of : PrivateKey → PrivateKeyInfo
container_of key = key.info

-- The curve public key beside the container.
abbrev pub point_beside : PrivateKey → Option BitString
point_beside key = key.public_key
