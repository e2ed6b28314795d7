-- Private keys: different ones of a kind have different elements, each well formed.
use Rattle.std.proofs.Common.{◌≡◌, refl, ap}
use Rattle.der_core.specs.Elements.{octet_string}
use Rattle.der_core.specs.Encoding.{encoding, IsWellFormed}
use Rattle.der_core.specs.Facts.Fronts.{formed_encoding_once}
use Rattle.der_core.specs.Facts.OctetStrings.{octet_strings}
use Rattle.key_types.specs.PublicKeyInfo.{key_kind_number}
use Rattle.key_types.specs.RsaPrivateKey.{rsa_private_key}
use Rattle.key_types.specs.ECPrivateKey.{ec_private_key}
use Rattle.key_types.specs.Facts.RsaPrivateKeys.{rsa_private_keys}
use Rattle.key_types.specs.Facts.ECPrivateKeys.{ec_private_keys}
use Rattle.key_core.specs.PrivateKeyValue.{private_kind, private_key, private_key_octets}
use Rattle.key_core.specs.declared.private_key_value.PrivateKeyValue.{PrivateKeyValue}
use Rattle.key_core.specs.declared.private_key_value.PrivateKeyValue.TheVariants as values

pub keys_formed : (key : PrivateKeyValue) → IsWellFormed (private_key key)
keys_formed (values.Rsa key) = rsa_private_keys.formed key
keys_formed (values.Ec key) = ec_private_keys.formed key
keys_formed (values.Ed octets) = octet_strings.formed octets

-- a kind and an element determine a key
pub keys_once : (x y : PrivateKeyValue) → private_kind x ≡ private_kind y → private_key x ≡ private_key y → x ≡ y
keys_once (values.Rsa x) (values.Rsa y) kind e = ap values.Rsa (rsa_private_keys.once (rsa_private_key x) x y refl e)
keys_once (values.Ec x) (values.Ec y) kind e = ap values.Ec (ec_private_keys.once (ec_private_key x) x y refl e)
keys_once (values.Ed x) (values.Ed y) kind e = ap values.Ed (octet_strings.once (octet_string x) x y refl e)
keys_once x y kind e = absurd cc

-- so do a kind and an encoding
pub keys_by_encoding : (x y : PrivateKeyValue) → private_kind x ≡ private_kind y → encoding (private_key x) ≡ encoding (private_key y) → x ≡ y
keys_by_encoding x y kind e = keys_once x y kind (formed_encoding_once (private_key x) (private_key y) (keys_formed x) (keys_formed y) e)

one_number : (x y : PrivateKeyValue) → key_kind_number (private_kind x) ≡ key_kind_number (private_kind y) → private_kind x ≡ private_kind y
one_number (values.Rsa x) (values.Rsa y) e = refl
one_number (values.Ec x) (values.Ec y) e = refl
one_number (values.Ed x) (values.Ed y) e = refl
one_number x y e = absurd cc

pub keys_by_octets : (a b : PrivateKeyValue) → private_key_octets a ≡ private_key_octets b → a ≡ b
keys_by_octets a b e =
    let number : key_kind_number (private_kind a) ≡ key_kind_number (private_kind b) = cc in
    let octets : encoding (private_key a) ≡ encoding (private_key b) = cc in
    keys_by_encoding a b (one_number a b number) octets
