-- Small keys are refused for memory alone.
use Rattle.std.proofs.Common.{◌≡◌, ◌≢◌, inl, inr, true, false, ℕ, List, [], ◌∷◌, ◌++◌, ◌≤◌, refl, sym, ap, subst, ◌∙◌, arith, is_some}
use Rattle.der_core.specs.DerElement.{DerElement}
use Rattle.der_core.specs.Encoding.{IsDer}
use Rattle.der_core.specs.Writing.{RefusesToWrite}
use Rattle.der_core.specs.declared.error.DerError.{DerError}
use Rattle.der_core.specs.Size.{AreSmall, IsSmall, size}
use Rattle.der_core.specs.declared.error.DerError.TheVariants as der
use Rattle.der_core.proofs.Sizes.{only_memory, within_size}
use Rattle.key_types.specs.PublicKeyInfo.{public_key_info, inner_key}
use Rattle.key_types.specs.declared.key_info.SubjectPublicKeyInfo.{SubjectPublicKeyInfo}
use Rattle.key_types.specs.declared.subject_key.SubjectKey.{SubjectKey}
use Rattle.key_types.specs.RsaPrivateKey.{rsa_private_key}
use Rattle.key_types.specs.declared.rsa_private_key.RsaPrivateKey.{RsaPrivateKey}
use Rattle.sig_core.specs.DemoScheme.{demo_signs}
use Rattle.sig_core.specs.declared.algorithm.SigAlg.{SigAlg}
use Rattle.sig_core.specs.declared.algorithm.SigAlg.TheVariants.{RsaSha256}
use Rattle.sig_core.specs.declared.hash.HashAlgorithm.TheVariants.{SHA2_256}
use Rattle.key_core.specs.KeyIdentifier.{RefusesWhole}
use Rattle.key_core.specs.KeyRefusals.{unwritten}
use Rattle.key_core.specs.Keys.{container_of, point_beside}
use Rattle.key_core.specs.PrivateKeyValue.{private_kind}
use Rattle.key_core.specs.PrivatePkcs1.{IsPrivatePkcs1, IsPkcs1OfPrivate}
use Rattle.key_core.specs.PublicHalf.{RefusesPublicHalf}
use Rattle.key_core.specs.SignatureRules.{RefusesSignatureBy}
use Rattle.key_core.specs.Signing.{IsAsked, UnwritableSecret, sign_rules}
use Rattle.key_core.specs.declared.element.Element.TheVariants as elements
use Rattle.key_core.specs.declared.error.KeyError.{KeyError}
use Rattle.key_core.specs.declared.error.KeyError.TheVariants as key_errors
use Rattle.key_core.specs.declared.key_id.KeyIdGenError.{KeyIdGenError}
use Rattle.key_core.specs.declared.key_id.KeyIdGenError.TheVariants as id_errors
use Rattle.key_core.specs.declared.private_key.PrivateKey.{PrivateKey}
use Rattle.key_core.specs.declared.private_key_value.PrivateKeyValue.{PrivateKeyValue}
use Rattle.key_core.specs.declared.private_key_value.PrivateKeyValue.TheVariants as values
use Rattle.key_core.specs.declared.signature_algorithm.SignatureAlgorithm.TheVariants.{RsaPkcs1v15}
use Rattle.key_core.specs.declared.signature_error.SignatureError.{SignatureError}
use Rattle.key_core.specs.declared.signature_error.SignatureError.TheVariants as signature_errors
use Rattle.key_core.specs.SmallKeys.{AreSmallKeys, IsSmallModulus, signs_by_demo, small_key_info, small_rsa_key, small_secret}
use Rattle.key_core.proofs.SmallKeys.{half_of, info_is, is_der, is_encoded, rsa_is}
use Rattle.key_core.proofs.SmallSecrets.{demo_key_is}

pub key_size : (modulus : List ℕ) → IsSmallModulus modulus → size (small_key_info modulus) ≤ 100
key_size modulus small = omega (arith, within_size (small_rsa_key modulus), small.few)

pub rsa_small : (modulus : List ℕ) → IsSmallModulus modulus → IsSmall (small_rsa_key modulus)
rsa_small modulus small = record { nested = omega arith; light = omega (arith, small.few) }

pub key_small : (modulus : List ℕ) → IsSmallModulus modulus → IsSmall (small_key_info modulus)
key_small modulus small = record { nested = omega arith; light = omega (arith, key_size modulus small) }

pub half_or_memory : (modulus : List ℕ) (key : PrivateKey) (e : KeyError) → IsPrivatePkcs1 (small_secret modulus) key
    → RefusesPublicHalf (container_of key).private_key (point_beside key) e → e ≡ key_errors.Memory
half_or_memory modulus key e private refused =
    subst (λ (v : PrivateKeyValue). RefusesPublicHalf v (point_beside key) e) private.container.is refused

-- what is written for the public key is small
keys_small : (modulus : List ℕ) → IsSmallModulus modulus → (key : PrivateKey) (info : SubjectPublicKeyInfo) → AreSmallKeys modulus key info
    → AreSmall (inner_key info.subject_public_key ++ public_key_info info ∷ [])
keys_small modulus small key info keys =
    let half = half_of modulus key info keys in
    let same : (inner_key info.subject_public_key ++ public_key_info info ∷ []) ≡ (small_rsa_key modulus ∷ small_key_info modulus ∷ []) =
    ap (λ (k : SubjectKey). inner_key k ++ public_key_info info ∷ []) half.is
    ∙ ap (λ (r : DerElement). r ∷ public_key_info info ∷ []) (rsa_is modulus key info keys)
    ∙ ap (λ (k : DerElement). small_rsa_key modulus ∷ k ∷ []) (info_is modulus key info keys) in
    subst AreSmall (sym same) (rsa_small modulus small, (key_small modulus small, tt))

pub identifier_or_memory : (modulus : List ℕ) → IsSmallModulus modulus → (key : PrivateKey) (info : SubjectPublicKeyInfo) (e : KeyIdGenError)
    → AreSmallKeys modulus key info
    → RefusesWhole info e → e ≡ id_errors.Memory
identifier_or_memory modulus small key info (id_errors.InvalidKey source) keys refused =
    let memory = only_memory _ refused.0.0 (keys_small modulus small key info keys) refused.0.2 in
    absurd (refused.1 (refused.0.1 ∙ ap (unwritten elements.SubjectPublicKeyInfo) memory))
identifier_or_memory modulus small key info (id_errors.Asn1Serialization element source) keys refused = absurd refused
identifier_or_memory modulus small key info id_errors.Memory keys refused = refl

-- an element within limits is refused for memory alone
written : (element : DerElement) (source : DerError) → IsDer element → RefusesToWrite element source → source ≢ der.Memory → ⊥
written element der.TooDeep bounds refused other = omega (arith, bounds.nested, refused)
written element der.TooLong bounds refused other = refused.1 bounds.short
written element der.Memory bounds refused other = other refl
written element (der.Malformed m) bounds refused other = refused
written element der.Shape bounds refused other = refused

rsa_once : (a b : RsaPrivateKey) → values.Rsa a ≡ values.Rsa b → a ≡ b
rsa_once a b e = cc

can_write : (modulus : List ℕ) (key : PrivateKey) (e : SignatureError) → IsPrivatePkcs1 (small_secret modulus) key → UnwritableSecret key e → ⊥
can_write modulus key e private refused =
    let same : private.rsa ≡ refused.rsa = rsa_once private.rsa refused.rsa (sym private.container.is ∙ refused.is) in
    written (rsa_private_key refused.rsa) refused.source (subst (λ (r : RsaPrivateKey). IsDer (rsa_private_key r)) same (is_der modulus key private))
    refused.cause.cause refused.cause.not_memory

differ : false ≡ true → ⊥
differ e = absurd cc

signs_all : (modulus : List ℕ) → IsSmallModulus modulus → (key : PrivateKey) (message : List ℕ) → IsPrivatePkcs1 (small_secret modulus) key
    → IsAsked signs_by_demo (RsaPkcs1v15 SHA2_256) key message false → ⊥
signs_all modulus small key message private asked =
    let written = subst (λ (v : PrivateKeyValue). IsPkcs1OfPrivate v asked.secret) private.container.is asked.fits.1 in
    let secret : asked.secret ≡ small_secret modulus = written.0 ∙ sym (is_encoded modulus key private) in
    let signs : demo_signs RsaSha256 (small_secret modulus) ≡ true = ap is_some (demo_key_is modulus small) in
    let asked_for : demo_signs asked.alg asked.secret ≡ false = asked.signed in
    let same : demo_signs asked.alg asked.secret ≡ demo_signs RsaSha256 (small_secret modulus) =
    ap (λ (a : SigAlg). demo_signs a asked.secret) asked.fits.0 ∙ ap (λ (s : List ℕ). demo_signs RsaSha256 s) secret in
    absurd (differ (sym asked_for ∙ same ∙ signs))

pub signature_or_memory : (modulus : List ℕ) → IsSmallModulus modulus → (key : PrivateKey) (message : List ℕ) (e : SignatureError)
    → IsPrivatePkcs1 (small_secret modulus) key
    → RefusesSignatureBy (sign_rules signs_by_demo (RsaPkcs1v15 SHA2_256) key message) e → e ≡ signature_errors.Memory
signature_or_memory modulus small key message e private (inr memory) = memory
signature_or_memory modulus small key message e private (inl (inl other)) = absurd (other.0 (ap private_kind private.container.is))
signature_or_memory modulus small key message e private (inl (inr (met, inl long))) = absurd (can_write modulus key e private long)
signature_or_memory modulus small key message e private (inl (inr (met, inr (fine, inl unsigned)))) =
    absurd (signs_all modulus small key message private unsigned.0)
signature_or_memory modulus small key message e private (inl (inr (met, inr (fine, inr (signed, none))))) = absurd none
