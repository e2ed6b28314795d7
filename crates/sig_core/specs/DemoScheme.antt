-- The demonstration scheme, which has no security: the keys of secrets, and the accepted
-- signatures.
use Rattle.std.specs.Prelude.{◌⊎◌, ℕ, ◌==◌, Bool, if◌then◌else◌, List, ◌∷◌, ◌++◌, length, Option, Some, None, is_some, bytes_eq}
use Rattle.std.proofs.Common.{inl, inr}
use Rattle.sha2.specs.Sha256.{sha256}
use Rattle.der_core.specs.Encoding.{encoding}
use Rattle.sig_core.specs.declared.algorithm.SigAlg.{SigAlg}
use Rattle.sig_core.specs.declared.algorithm.SchemeKind.{SchemeKind}
use Rattle.sig_core.specs.declared.algorithm.SchemeKind.TheVariants.{Rsa, P256, P384, P521, Ed25519, X25519}
use Rattle.sig_core.specs.declared.scheme.Verdict.{Verdict}
use Rattle.sig_core.specs.declared.scheme.Verdict.TheVariants.{Accept, Reject, Malformed}
use Rattle.sig_core.specs.Algorithm.{name_of, kind_of_algorithm}
use Rattle.sig_core.specs.RsaSecret.{rsa_public_element, IsRsaSecret}
use Rattle.sig_core.specs.Facts.RsaSecrets.{rsa_secret_or_none}

-- the key of an RSA secret: the encoding of the RSAPublicKey with its modulus and public exponent
abbrev pub rsa_key : {secret : List ℕ} → IsRsaSecret secret ⊎ (IsRsaSecret secret → ⊥)
    → Option (List ℕ)
rsa_key (inl rsa) =
    Some (encoding (rsa_public_element rsa.numbers.modulus rsa.numbers.public_exponent))
rsa_key (inr none) = None

-- the key if the secret has so many octets
abbrev pub key_of_length : ℕ → List ℕ → List ℕ → Option (List ℕ)
key_of_length size secret key = if length secret == size then Some key else None

-- the key of a secret, if it has one. For a named curve it is in the form of an uncompressed point
-- (SEC 1 2.3.3), with the secret, which has the length of the field, as both coordinates; for curve
-- 25519 it is the digest of 32 octets
abbrev pub demo_key : SchemeKind → List ℕ → Option (List ℕ)
demo_key Rsa secret = rsa_key (rsa_secret_or_none secret)
demo_key P256 secret = key_of_length 32 secret (0x04 ∷ secret ++ secret)
demo_key P384 secret = key_of_length 48 secret (0x04 ∷ secret ++ secret)
demo_key P521 secret = key_of_length 66 secret (0x04 ∷ secret ++ secret)
demo_key Ed25519 secret = key_of_length 32 secret (sha256 secret)
demo_key X25519 secret = key_of_length 32 secret (sha256 secret)

-- whether the secret has a key for the algorithm
abbrev pub demo_signs : SigAlg → List ℕ → Bool
demo_signs alg secret = is_some (demo_key (kind_of_algorithm alg) secret)

-- the one signature of a message that is accepted under a key
abbrev pub demo_signature : SigAlg → List ℕ → List ℕ → List ℕ
demo_signature alg key msg = sha256 (name_of alg ++ 0x00 ∷ sha256 key ++ msg)

-- a signature has 32 octets; one is accepted, and all others of that length are rejected
abbrev pub demo_verdict : SigAlg → List ℕ → List ℕ → List ℕ → Verdict
demo_verdict alg key msg sig =
    if length sig == 32
    then (if bytes_eq sig (demo_signature alg key msg) then Accept else Reject)
    else Malformed
