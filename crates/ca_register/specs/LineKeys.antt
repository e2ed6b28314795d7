-- The keys of a register's lines: the contents octet of the modulus is their number. Nothing is
-- computed with them but their public parts.
use Rattle.std.specs.Prelude.{ℕ, List, [], ◌∷◌}
use Rattle.sha2.specs.Sha256.{sha256}
use Rattle.der_core.specs.DerElement.{DerElement}
use Rattle.der_core.specs.Encoding.{encoding}
use Rattle.key_types.specs.declared.key_info.SubjectPublicKeyInfo.{SubjectPublicKeyInfo}
use Rattle.key_core.specs.SmallKeys.{AreSmallKeys, small_key_info, small_rsa_key, small_secret}
use Rattle.key_core.specs.declared.private_key.PrivateKey.{PrivateKey}

-- the octets of the RSAPrivateKey (RFC 8017 A.1.2)
abbrev pub key_secret : ℕ → List ℕ
key_secret number = small_secret (number ∷ [])

-- the RSAPublicKey (RFC 8017 A.1.1)
abbrev pub rsa_key_of : ℕ → DerElement
rsa_key_of number = small_rsa_key (number ∷ [])

-- the SubjectPublicKeyInfo (RFC 3279 2.3.1)
abbrev pub key_info_of : ℕ → DerElement
key_info_of number = small_key_info (number ∷ [])

-- the key identifier: the SHA-256 of the SubjectPublicKeyInfo
abbrev pub key_id_of : ℕ → List ℕ
key_id_of number = sha256 (encoding (key_info_of number))

-- The private key is the one with this number, as it is read, and the public key is its own.
abbrev pub AreLineKeys : ℕ → PrivateKey → SubjectPublicKeyInfo → Type 0
AreLineKeys number = AreSmallKeys (number ∷ [])
