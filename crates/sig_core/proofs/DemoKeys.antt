-- The key of an RSA secret is determined by the secret.
use Rattle.std.proofs.Common.{◌≡◌, ◌⊎◌, inl, inr, List, ℕ, Some, None, refl, sym, ap, ◌∙◌}
use Rattle.der_core.specs.Encoding.{encoding}
use Rattle.der_core.specs.Facts.Fronts.{formed_encoding_once}
use Rattle.sig_core.specs.declared.algorithm.SchemeKind.TheVariants.{Rsa}
use Rattle.sig_core.specs.RsaSecret.{RsaNumbers, rsa_private_element, rsa_public_element, IsRsaSecret}
use Rattle.sig_core.specs.DemoScheme.{rsa_key, demo_key}
use Rattle.sig_core.specs.Facts.RsaSecrets.{rsa_secret_or_none}
use Rattle.sig_core.proofs.SecretKids.{kids_of_key, same_kids}

-- different numbers have different keys
numbers_once : (a b : RsaNumbers) → rsa_private_element a ≡ rsa_private_element b
    → (a.modulus ≡ b.modulus) × (a.public_exponent ≡ b.public_exponent)
numbers_once a b e =
    let kids = same_kids (rsa_private_element a) (kids_of_key a) (kids_of_key b) refl e in
    let modulus : a.modulus ≡ b.modulus = cc in
    let public_exponent : a.public_exponent ≡ b.public_exponent = cc in
    (modulus, public_exponent)

abbrev key_of : RsaNumbers → List ℕ
key_of numbers = encoding (rsa_public_element numbers.modulus numbers.public_exponent)

one_key : (secret : List ℕ) (a b : IsRsaSecret secret) → key_of a.numbers ≡ key_of b.numbers
one_key secret a b =
    let same = formed_encoding_once (rsa_private_element a.numbers) (rsa_private_element b.numbers) a.der.formed b.der.formed (sym a.encoded ∙ b.encoded) in
    let numbers = numbers_once a.numbers b.numbers same in
    ap (λ (n : List ℕ). encoding (rsa_public_element n a.numbers.public_exponent)) numbers.0
    ∙ ap (λ (e : List ℕ). encoding (rsa_public_element b.numbers.modulus e)) numbers.1

where_one : (secret : List ℕ) (rsa : IsRsaSecret secret) (returned : IsRsaSecret secret ⊎ (IsRsaSecret secret → ⊥))
    → rsa_key returned ≡ Some (key_of rsa.numbers)
where_one secret rsa (inl other) = ap Some (one_key secret other rsa)
where_one secret rsa (inr none) = absurd (none rsa)

where_none : (secret : List ℕ) → (IsRsaSecret secret → ⊥) → (returned : IsRsaSecret secret ⊎ (IsRsaSecret secret → ⊥)) → rsa_key returned ≡ None
where_none secret none (inl rsa) = absurd (none rsa)
where_none secret none (inr other) = refl

pub rsa_key_is : (secret : List ℕ) (rsa : IsRsaSecret secret)
    → demo_key Rsa secret ≡ Some (encoding (rsa_public_element rsa.numbers.modulus rsa.numbers.public_exponent))
rsa_key_is secret rsa = where_one secret rsa (rsa_secret_or_none secret)

pub no_rsa_key : (secret : List ℕ) → (IsRsaSecret secret → ⊥) → demo_key Rsa secret ≡ None
no_rsa_key secret none = where_none secret none (rsa_secret_or_none secret)
