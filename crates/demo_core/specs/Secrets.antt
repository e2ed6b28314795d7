-- The private keys of a demonstration. Nothing is computed with them but their public parts.
use Rattle.std.specs.Prelude.{ℕ, ◌/◌, ◌%◌, ◌^◌, List, [], ◌∷◌}
use Rattle.key_core.specs.SmallKeys.{AreSmallKeys, small_secret}
use Rattle.key_core.specs.declared.private_key.PrivateKey.{PrivateKey}
use Rattle.key_types.specs.declared.key_info.SubjectPublicKeyInfo.{SubjectPublicKeyInfo}

-- the modulus of the step of this index: 1, then the index in three octets
abbrev pub step_modulus : ℕ → List ℕ
step_modulus index =
    1 ∷ index / 2 ^ 16 % 2 ^ 8 ∷ index / 2 ^ 8 % 2 ^ 8 ∷ index % 2 ^ 8 ∷ []

-- the octets of the RSAPrivateKey (RFC 8017 A.1.2)
abbrev pub step_secret : ℕ → List ℕ
step_secret index = small_secret (step_modulus index)

-- The private key is that of the step of this index, as it is read, and the public key is its own.
abbrev pub AreStepKeys : ℕ → PrivateKey → SubjectPublicKeyInfo → Type 0
AreStepKeys index = AreSmallKeys (step_modulus index)
