-- An RSA key and the bits that encode it.
use Rattle.std.proofs.Common.{◌≡◌, ℕ, List, Result, Ok, Err, MatchResult, refl, ◌∙◌, ap, subst}
use Rattle.der_core.specs.DerElement.{DerElement}
use Rattle.der_core.specs.Elements.{bit_octets}
use Rattle.der_core.specs.Encoding.{encoding, IsDer}
use Rattle.der_core.specs.declared.error.DerError.{DerError}
use Rattle.der_core.specs.Refusals.{RefusesShape}
use Rattle.der_core.specs.Structure.{IsWithin}
use Rattle.key_types.specs.RsaPublicKey.{rsa_public_key}
use Rattle.key_types.specs.PublicKeyInfo.{IsSubjectKey}
use Rattle.key_types.specs.declared.public_key.RsaPublicKey.{RsaPublicKey}
use Rattle.key_types.specs.declared.subject_key.SubjectKey.TheVariants as keys
use Rattle.der_core.specs.Facts.Lists.{list_refused}

abbrev IsRsaKey : List ℕ → RsaPublicKey → Type 0
IsRsaKey payload key = IsWithin (λ (element : DerElement) (k : RsaPublicKey). element ≡ rsa_public_key k) payload key

-- the key in the octets is the one in the bits
pub rsa_in_bits : (t : DerElement) (payload : List ℕ) (key : RsaPublicKey) → t ≡ bit_octets payload → IsRsaKey payload key → IsSubjectKey t (keys.Rsa key)
rsa_in_bits t payload key bits within =
    let octets : payload ≡ encoding (rsa_public_key key) = within.encoded ∙ ap encoding within.spelled in
    (bits ∙ ap bit_octets octets, (subst IsDer within.spelled within.der, tt))

pub rsa_of_bits : (t : DerElement) (payload : List ℕ) (key : RsaPublicKey) → t ≡ bit_octets payload → IsSubjectKey t (keys.Rsa key) → IsRsaKey payload key
rsa_of_bits t payload key bits is =
    let octets : payload ≡ encoding (rsa_public_key key) = cc (bits, is.0) in
    record { element = rsa_public_key key; der = is.1.0; encoded = octets; spelled = refl }

-- what is read of the octets is read of the bits
pub rsa_key_in_bits : (t : DerElement) (payload : List ℕ) → t ≡ bit_octets payload
    → (r : Result RsaPublicKey DerError) → MatchResult r (IsRsaKey payload) (RefusesShape (IsRsaKey payload))
    → MatchResult r (λ key. IsSubjectKey t (keys.Rsa key)) (RefusesShape (λ (key : RsaPublicKey). IsSubjectKey t (keys.Rsa key)))
rsa_key_in_bits t payload bits (Ok key) within = rsa_in_bits t payload key bits within
rsa_key_in_bits t payload bits (Err e) refused =
    list_refused (IsRsaKey payload) (λ (key : RsaPublicKey). IsSubjectKey t (keys.Rsa key)) e (λ key is. (key, rsa_of_bits t payload key bits is)) refused
