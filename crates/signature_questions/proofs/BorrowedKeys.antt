-- A borrowed key fits an algorithm exactly where the key that it is does.
use Rattle.std.proofs.Common.{◌≡◌, ◌≢◌, IsTrue, ℕ, List, [], ◌∷◌, length, Option, Some, None, refl, sym, subst, ap, ◌∙◌}
use Rattle.asn1_types.specs.Elements.{object_identifier_of}
use Rattle.asn1_types.specs.Values.{payload_of}
use Rattle.asn1_types.specs.declared.bit_string.BitString.{BitString}
use Rattle.der_core.specs.DerElement.{DerElement, Primitive}
use Rattle.der_core.specs.BorrowedOption.{at_option, kept_option}
use Rattle.der_core.specs.Borrowed.{AreDer}
use Rattle.key_types.specs.AlgorithmIdentifier.{parameters_of}
use Rattle.key_types.specs.Facts.Kinds.{one_kind}
use Rattle.key_types.specs.KeyKind.{names_kind}
use Rattle.key_types.specs.PublicKeyInfo.{inner_key, subject_public_key}
use Rattle.key_types.specs.SubjectKey.{kind_of_key}
use Rattle.key_types.specs.declared.key_info.SubjectPublicKeyInfo.{SubjectPublicKeyInfo}
use Rattle.key_types.specs.declared.key_kind.KeyKind.{KeyKind}
use Rattle.key_types.specs.declared.key_kind.KeyKind.TheVariants as kinds
use Rattle.key_types.specs.declared.subject_key.SubjectKey.{SubjectKey}
use Rattle.key_types.specs.declared.subject_key.SubjectKey.TheVariants as keys
use Rattle.sig_core.specs.declared.algorithm.SigAlg.{SigAlg}
use Rattle.sig_core.specs.declared.algorithm.SigAlg.TheVariants as algs
use Rattle.sig_core.specs.declared.hash.HashAlgorithm.{HashAlgorithm}
use Rattle.signature_questions.specs.BorrowedKey.{LendsKey}
use Rattle.key_core.specs.EcCurve.{curve_identifier}
use Rattle.key_core.specs.EdAlgorithm.{ed_identifier}
use Rattle.key_core.specs.Pkcs1.{IsPkcs1Of}
use Rattle.key_core.specs.SchemeNames.{rsa_alg, curve_for, ecdsa_alg}
use Rattle.key_core.specs.Verifying.{FitsKey}
use Rattle.key_core.specs.declared.ec_curve.EcCurve.{EcCurve}
use Rattle.key_core.specs.declared.ed_algorithm.EdAlgorithm.TheVariants as ed
use Rattle.key_core.specs.declared.signature_algorithm.SignatureAlgorithm.{SignatureAlgorithm}
use Rattle.key_core.specs.declared.signature_algorithm.SignatureAlgorithm.TheVariants.{RsaPkcs1v15, Ecdsa, Ed25519}
use Rattle.signature_questions.specs.declared.borrowed_key.BorrowedKey.{BorrowedKey}
use Rattle.key_core.proofs.Curves.{same_curve}

rsa_kind : (k : SubjectKey) (bytes : List ℕ) → IsPkcs1Of k bytes → kind_of_key k ≡ kinds.Rsa
rsa_kind (keys.Rsa key) bytes is = refl
rsa_kind (keys.Ec b) bytes is = absurd is
rsa_kind (keys.Ed b) bytes is = absurd is
rsa_kind (keys.Mldsa b) bytes is = absurd is

rsa_within : (k : SubjectKey) (bytes : List ℕ) → IsPkcs1Of k bytes → AreDer (inner_key k)
rsa_within (keys.Rsa key) bytes is = (is.1, tt)
rsa_within (keys.Ec b) bytes is = tt
rsa_within (keys.Ed b) bytes is = tt
rsa_within (keys.Mldsa b) bytes is = tt

ec_bits : (k : SubjectKey) (u : ℕ) (bits : List ℕ) → kind_of_key k ≡ kinds.Ec → subject_public_key k ≡ Primitive 0x03 (u ∷ bits)
    → (b : BitString) × (k ≡ keys.Ec b) × (bits ≡ payload_of b)
ec_bits (keys.Rsa key) u bits kind is = absurd cc
ec_bits (keys.Ec b) u bits kind is = (b, refl, cc)
ec_bits (keys.Ed b) u bits kind is = absurd cc
ec_bits (keys.Mldsa b) u bits kind is = absurd cc

ed_bits : (k : SubjectKey) (u : ℕ) (bits : List ℕ) → kind_of_key k ≡ kinds.Ed → subject_public_key k ≡ Primitive 0x03 (u ∷ bits)
    → (b : BitString) × (k ≡ keys.Ed b) × (bits ≡ payload_of b)
ed_bits (keys.Rsa key) u bits kind is = absurd cc
ed_bits (keys.Ec b) u bits kind is = absurd cc
ed_bits (keys.Ed b) u bits kind is = (b, refl, cc)
ed_bits (keys.Mldsa b) u bits kind is = absurd cc

-- a key that fits is within limits
pub within : (algorithm : SignatureAlgorithm) (key : SubjectPublicKeyInfo) (alg : SigAlg) (bytes : List ℕ) → FitsKey algorithm key alg bytes
    → AreDer (inner_key key.subject_public_key)
within (RsaPkcs1v15 hash) key alg bytes fits = rsa_within key.subject_public_key bytes fits.1
within (Ecdsa hash) key alg bytes (curve, signs, is, point) = subst (λ (k : SubjectKey). AreDer (inner_key k)) (sym point.is) tt
within Ed25519 key alg bytes fits = subst (λ (k : SubjectKey). AreDer (inner_key k)) (sym fits.1.is) tt

same_bits : (a b : BitString) → keys.Ed a ≡ keys.Ed b → a ≡ b
same_bits a b e = cc

module _ (parts : BorrowedKey) (key : SubjectPublicKeyInfo) (lends : LendsKey parts key) where
  named : IsTrue (names_kind (kind_of_key key.subject_public_key) parts.oid.now)
  named = subst (λ (o : List ℕ). IsTrue (names_kind (kind_of_key key.subject_public_key) o)) (sym lends.oid) key.fits.named

  kind_is : (kind : KeyKind) → IsTrue (names_kind kind parts.oid.now) → kind_of_key key.subject_public_key ≡ kind
  kind_is kind is = one_kind (kind_of_key key.subject_public_key) kind parts.oid.now named is

  names_it : (kind : KeyKind) → kind_of_key key.subject_public_key ≡ kind → IsTrue (names_kind kind parts.oid.now)
  names_it kind is = subst (λ (k : KeyKind). IsTrue (names_kind k parts.oid.now)) is named

  one_curve : (a b : EcCurve) → at_option parts.parameters ≡ Some (object_identifier_of (curve_identifier a))
      → kept_option (parameters_of key.algorithm) ≡ Some (object_identifier_of (curve_identifier b)) → a ≡ b
  one_curve a b at on = let both = sym at ∙ lends.parameters ∙ on in same_curve a b cc

  pub ec_fits : (hash : HashAlgorithm) (curve : EcCurve) → IsTrue (names_kind kinds.Ec parts.oid.now) → at_option parts.parameters
      ≡ Some (object_identifier_of (curve_identifier curve)) → curve_for hash ≡ Some curve → FitsKey (Ecdsa hash) key (ecdsa_alg curve) parts.bits.now
  ec_fits hash curve is at signs =
      let bits = ec_bits key.subject_public_key lends.unused parts.bits.now (kind_is kinds.Ec is) lends.bits in
      (curve, signs, refl, record { bits = bits.0; is = bits.1; on = sym lends.parameters ∙ at; payload = bits.2 })

  pub not_ed : (parts.oid.now ≢ ed_identifier ed.Ed25519) → (alg : SigAlg) (bytes : List ℕ) → FitsKey Ed25519 key alg bytes → ⊥
  not_ed not alg bytes fits = not (lends.oid ∙ fits.1.of)

  names_ed : (oid : List ℕ) → oid ≡ ed_identifier ed.Ed25519 → IsTrue (names_kind kinds.Ed oid)
  names_ed oid is = subst (λ (o : List ℕ). IsTrue (names_kind kinds.Ed o)) (sym is) refl

  pub ed_fits : parts.oid.now ≡ ed_identifier ed.Ed25519 → length parts.bits.now ≡ 32 → FitsKey Ed25519 key algs.Ed25519 parts.bits.now
  ed_fits is size =
      let bits = ed_bits key.subject_public_key lends.unused parts.bits.now (kind_is kinds.Ed (names_ed parts.oid.now is)) lends.bits in
      (refl, record { bits = bits.0; is = bits.1; of = sym lends.oid ∙ is; payload = bits.2; size = size })
