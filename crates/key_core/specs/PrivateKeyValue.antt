-- The private key in the OCTET STRING of a PrivateKeyInfo.
use Rattle.std.specs.Prelude.{◌≡◌, ℕ, List, ◌∷◌}
use Rattle.der_core.specs.DerElement.{DerElement}
use Rattle.der_core.specs.Elements.{octet_string}
use Rattle.der_core.specs.Encoding.{encoding, IsDer}
use Rattle.key_types.specs.PublicKeyInfo.{key_kind_number}
use Rattle.key_types.specs.declared.key_kind.KeyKind.{KeyKind}
use Rattle.key_types.specs.declared.key_kind.KeyKind.TheVariants as kinds
use Rattle.key_types.specs.RsaPrivateKey.{rsa_private_key}
use Rattle.key_types.specs.ECPrivateKey.{ec_private_key}
use Rattle.key_core.specs.declared.private_key_value.PrivateKeyValue.{PrivateKeyValue}
use Rattle.key_core.specs.declared.private_key_value.PrivateKeyValue.TheVariants as values

-- the kind of a key
abbrev pub private_kind : PrivateKeyValue → KeyKind
private_kind (values.Rsa key) = kinds.Rsa
private_kind (values.Ec key) = kinds.Ec
private_kind (values.Ed octets) = kinds.Ed

-- An RSAPrivateKey (RFC 8017 A.1.2), an ECPrivateKey (RFC 5915 3), or a CurvePrivateKey ::= OCTET
-- STRING (RFC 8410 7).
abbrev pub private_key : PrivateKeyValue → DerElement
private_key (values.Rsa key) = rsa_private_key key
private_key (values.Ec key) = ec_private_key key
private_key (values.Ed octets) = octet_string octets

-- The octets are the encoding of the key, which is of the kind and within limits.
pub record IsPrivateKeyOf (kind : KeyKind) (octets : List ℕ) (key : PrivateKeyValue) : Type 0 where
  pub of_kind : private_kind key ≡ kind
  pub encoded : octets ≡ encoding (private_key key)
  pub der : IsDer (private_key key)

-- the encoding of a key
abbrev pub private_key_octets : PrivateKeyValue → List ℕ
private_key_octets key = key_kind_number (private_kind key) ∷ encoding (private_key key)
