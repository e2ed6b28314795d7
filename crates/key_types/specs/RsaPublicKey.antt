-- RSAPublicKey ::= SEQUENCE { modulus INTEGER, publicExponent INTEGER } (RFC 8017 A.1.1)
use Rattle.std.specs.Prelude.{[], ◌∷◌}
use Rattle.der_core.specs.DerElement.{DerElement}
use Rattle.der_core.specs.Elements.{sequence}
use Rattle.asn1_types.specs.Elements.{integer}
use Rattle.key_types.specs.declared.public_key.RsaPublicKey.{RsaPublicKey}

-- the element of a key
abbrev pub rsa_public_key : RsaPublicKey → DerElement
rsa_public_key key = sequence (integer key.modulus ∷ integer key.public_exponent ∷ [])
