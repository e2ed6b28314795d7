-- Why the RSAPublicKey of a key isn't written, as an error of a key identifier.
use Rattle.std.proofs.Common.{[], ◌∷◌, refl}
use Rattle.der_core.specs.Refusals.{RefusesInner}
use Rattle.der_core.specs.declared.error.DerError.{DerError}
use Rattle.der_core.specs.declared.error.DerError.TheVariants as der
use Rattle.key_types.specs.RsaPublicKey.{rsa_public_key}
use Rattle.key_types.specs.declared.public_key.RsaPublicKey.{RsaPublicKey}
use Rattle.key_types.specs.declared.subject_key.SubjectKey.TheVariants as keys
use Rattle.key_core.specs.KeyIdentifier.{RefusesPayload, payload_refusal}
use Rattle.key_core.proofs.Unwritten.{alone}
use Rattle.key_core.proofs.Verifications.{deep_is_not_memory, long_is_not_memory}

pub payload_refused : (k : RsaPublicKey) (source : DerError) → RefusesInner (rsa_public_key k ∷ []) source
    → RefusesPayload (keys.Rsa k) (payload_refusal source)
payload_refused k (der.Malformed m) refused = absurd refused
payload_refused k der.Shape refused = absurd refused
payload_refused k der.TooDeep refused = (k, refl, refl, alone (rsa_public_key k) der.TooDeep deep_is_not_memory refused)
payload_refused k der.TooLong refused = (k, refl, refl, alone (rsa_public_key k) der.TooLong long_is_not_memory refused)
payload_refused k der.Memory refused = tt
