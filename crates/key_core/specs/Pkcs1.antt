-- The RSAPublicKey of a key, on its own (RFC 8017 A.1.1).
use Rattle.std.specs.Prelude.{◌≡◌, ℕ, List, [], ◌∷◌}
use Rattle.der_core.specs.DerElement.{DerElement}
use Rattle.der_core.specs.Encoding.{encoding, IsDer}
use Rattle.der_core.specs.Refusals.{RefusesInner}
use Rattle.der_core.specs.Structure.{IsWithin}
use Rattle.key_types.specs.RsaPublicKey.{rsa_public_key}
use Rattle.key_types.specs.declared.key_info.SubjectPublicKeyInfo.{SubjectPublicKeyInfo}
use Rattle.key_types.specs.declared.public_key.RsaPublicKey.{RsaPublicKey}
use Rattle.key_types.specs.declared.subject_key.SubjectKey.{SubjectKey}
use Rattle.key_types.specs.declared.subject_key.SubjectKey.TheVariants as keys
use Rattle.key_core.specs.KeyRefusals.{IsUnwrittenKey}
use Rattle.key_core.specs.MadeKeys.{IsRsaInfo}
use Rattle.key_core.specs.declared.element.Element.TheVariants as elements
use Rattle.key_core.specs.declared.error.KeyContext.TheVariants as contexts
use Rattle.key_core.specs.declared.error.KeyError.{KeyError}
use Rattle.key_core.specs.declared.error.KeyError.TheVariants as errors

-- the element is the RSAPublicKey
abbrev pub IsRsaPublicKey : DerElement → RsaPublicKey → Type 0
IsRsaPublicKey element key = element ≡ rsa_public_key key

-- An RSA key by the encoding of its RSAPublicKey.
pub record IsPkcs1Key (octets : List ℕ) (info : SubjectPublicKeyInfo) : Type 0 where
  pub key : RsaPublicKey
  pub rsa : IsRsaInfo key info
  pub within : IsWithin IsRsaPublicKey octets key

-- the octets encode the RSAPublicKey of the key, which is an RSA key
abbrev pub IsPkcs1Of : SubjectKey → List ℕ → Type 0
IsPkcs1Of (keys.Rsa key) octets =
    (octets ≡ encoding (rsa_public_key key)) × IsDer (rsa_public_key key)
IsPkcs1Of (keys.Ec bits) octets = ⊥
IsPkcs1Of (keys.Ed bits) octets = ⊥
IsPkcs1Of (keys.Mldsa bits) octets = ⊥

-- why a key has no such octets: it can't be written, or is of another kind
abbrev pub RefusesPkcs1 : SubjectKey → KeyError → Type 0
RefusesPkcs1 (keys.Rsa key) e =
    IsUnwrittenKey elements.RsaPublicKey (RefusesInner (rsa_public_key key ∷ [])) e
RefusesPkcs1 (keys.Ec bits) e = e ≡ errors.Rsa contexts.NotRsa
RefusesPkcs1 (keys.Ed bits) e = e ≡ errors.Rsa contexts.NotRsa
RefusesPkcs1 (keys.Mldsa bits) e = e ≡ errors.Rsa contexts.NotRsa
