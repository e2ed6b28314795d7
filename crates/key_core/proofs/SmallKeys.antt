-- Small keys are determined by their modulus.
use Rattle.std.proofs.Common.{◌≡◌, Bool, true, false, inl, if◌then◌else◌, ℕ, List, [], ◌∷◌, Option, Some, refl, sym, ap, subst, ◌∙◌, arith}
use Rattle.std.proofs.lemmas.Bool.{eqb-true}
use Rattle.std.proofs.lemmas.Slice.Eq.{bytes_eq-Decides}
use Rattle.std.specs.Prelude.{bytes_eq, length, ◌==◌}
use Rattle.der_core.specs.DerElement.{DerElement}
use Rattle.der_core.specs.Elements.{bit_octets, sequence}
use Rattle.der_core.specs.Encoding.{encoding, IsDer}
use Rattle.der_core.specs.Facts.Fronts.{formed_encoding_once}
use Rattle.der_core.specs.BorrowedOption.{kept_option}
use Rattle.der_core.proofs.Sizes.{light_short}
use Rattle.asn1_types.specs.Elements.{object_identifier_of}
use Rattle.asn1_types.specs.Values.{integer_contents}
use Rattle.asn1_types.specs.declared.oids.TheConstants.{RSA_ENCRYPTION}
use Rattle.key_types.specs.AlgorithmIdentifier.{algorithm_of, algorithm_identifier}
use Rattle.key_types.specs.PublicKeyInfo.{public_key_info, subject_public_key}
use Rattle.key_types.specs.RsaPublicKey.{rsa_public_key}
use Rattle.key_types.specs.declared.key_info.SubjectPublicKeyInfo.{SubjectPublicKeyInfo}
use Rattle.key_types.specs.declared.subject_key.SubjectKey.{SubjectKey}
use Rattle.key_types.specs.RsaPrivateKey.{rsa_private_key}
use Rattle.key_types.specs.declared.rsa_private_key.RsaPrivateKey.{RsaPrivateKey}
use Rattle.sig_core.specs.Digest.{digest_of}
use Rattle.sig_core.specs.DemoScheme.{demo_signature, demo_verdict}
use Rattle.sig_core.specs.RsaSecret.{RsaNumbers, rsa_private_element, rsa_public_element}
use Rattle.sig_core.specs.declared.algorithm.SigAlg.{SigAlg}
use Rattle.sig_core.specs.declared.algorithm.SigAlg.TheVariants.{RsaSha256}
use Rattle.sig_core.specs.declared.hash.HashAlgorithm.TheVariants.{SHA2_256}
use Rattle.sig_core.specs.declared.scheme.Verdict.TheVariants.{Accept, Reject, Malformed}
use Rattle.sig_core.proofs.SecretKids.{kids_of_key, same_kids}
use Rattle.key_core.specs.KeyIdentifier.{IsKeyIdentifier}
use Rattle.key_core.specs.Keys.{container_of, point_beside}
use Rattle.key_core.specs.MadeKeys.{IsRsaInfo}
use Rattle.key_core.specs.Pkcs1.{IsPkcs1Of}
use Rattle.key_core.specs.PrivatePkcs1.{IsPrivatePkcs1, IsPkcs1OfPrivate}
use Rattle.key_core.specs.PublicHalf.{IsPublicHalf, public_numbers}
use Rattle.key_core.specs.Signing.{IsKeyPair}
use Rattle.key_core.specs.Verifying.{Accepts}
use Rattle.key_core.specs.declared.key_id.KeyIdGenMethod.TheVariants.{SPKFullDER}
use Rattle.key_core.specs.declared.private_key.PrivateKey.{PrivateKey}
use Rattle.key_core.specs.declared.private_key_value.PrivateKeyValue.{PrivateKeyValue}
use Rattle.key_core.specs.declared.signature_algorithm.SignatureAlgorithm.TheVariants.{RsaPkcs1v15}
use Rattle.key_core.specs.SmallKeys.{AreSmallKeys, IsSmallModulus, demo_pair, small_key_id, small_key_info}
use Rattle.key_core.specs.SmallKeys.{small_numbers, small_rsa_key, small_secret, with_null}
use Rattle.key_core.proofs.RsaSecrets.{numbers_of}
use Rattle.key_core.proofs.SmallSecrets.{demo_key_is, integer_formed, secret_formed}

numbers_once : (a b : RsaNumbers) → rsa_private_element a ≡ rsa_private_element b
    → (a.modulus ≡ b.modulus) × (a.public_exponent ≡ b.public_exponent)
numbers_once a b e =
    let kids = same_kids (rsa_private_element a) (kids_of_key a) (kids_of_key b) refl e in
    let modulus : a.modulus ≡ b.modulus = cc in
    let public_exponent : a.public_exponent ≡ b.public_exponent = cc in
    (modulus, public_exponent)

-- the encoding of the private key is the secret
pub is_encoded : (modulus : List ℕ) (key : PrivateKey) (private : IsPrivatePkcs1 (small_secret modulus) key)
    → small_secret modulus ≡ encoding (rsa_private_key private.rsa)
is_encoded modulus key private = private.within.encoded ∙ ap encoding private.within.spelled

pub is_der : (modulus : List ℕ) (key : PrivateKey) (private : IsPrivatePkcs1 (small_secret modulus) key) → IsDer (rsa_private_key private.rsa)
is_der modulus key private = subst IsDer private.within.spelled private.within.der

pub numbers_are : (modulus : List ℕ) (rsa : RsaPrivateKey) → small_secret modulus ≡ encoding (rsa_private_key rsa) → IsDer (rsa_private_key rsa)
    → (integer_contents rsa.n ≡ modulus) × (integer_contents rsa.e ≡ 3 ∷ [])
numbers_are modulus rsa encoded der =
    numbers_once (numbers_of rsa) (small_numbers modulus)
    (formed_encoding_once (rsa_private_element (numbers_of rsa)) (rsa_private_element (small_numbers modulus)) der.formed (secret_formed modulus) (sym encoded))

public_is : (modulus : List ℕ) (rsa : RsaPrivateKey) → small_secret modulus ≡ encoding (rsa_private_key rsa) → IsDer (rsa_private_key rsa)
    → rsa_public_key (public_numbers rsa) ≡ small_rsa_key modulus
public_is modulus rsa encoded der =
    let numbers = numbers_are modulus rsa encoded der in
    ap (λ (n : List ℕ). rsa_public_element n (integer_contents rsa.e)) numbers.0
    ∙ ap (λ (e : List ℕ). rsa_public_element modulus e) numbers.1

-- the RSAPublicKey of the keys is that of the modulus
pub rsa_is : (modulus : List ℕ) (key : PrivateKey) (info : SubjectPublicKeyInfo) (keys : AreSmallKeys modulus key info)
    → rsa_public_key (public_numbers keys.private.rsa) ≡ small_rsa_key modulus
rsa_is modulus key info keys = public_is modulus keys.private.rsa (is_encoded modulus key keys.private) (is_der modulus key keys.private)

pub half_of : (modulus : List ℕ) (key : PrivateKey) (info : SubjectPublicKeyInfo) (keys : AreSmallKeys modulus key info)
    → IsRsaInfo (public_numbers keys.private.rsa) info
half_of modulus key info keys =
    subst (λ (v : PrivateKeyValue). IsPublicHalf v (container_of key).private_key_algorithm (point_beside key) info) keys.private.container.is keys.public

pub info_is : (modulus : List ℕ) (key : PrivateKey) (info : SubjectPublicKeyInfo) → AreSmallKeys modulus key info
    → public_key_info info ≡ small_key_info modulus
info_is modulus key info keys =
    let half = half_of modulus key info keys in
    let algorithm : algorithm_identifier info.algorithm ≡ with_null RSA_ENCRYPTION.now =
    ap (λ (c : List ℕ). algorithm_of (object_identifier_of c) (kept_option info.algorithm.parameters)) half.identifier
    ∙ ap (λ (p : Option DerElement). algorithm_of (object_identifier_of RSA_ENCRYPTION.now) p) half.parameters in
    let bits : subject_public_key info.subject_public_key ≡ bit_octets (encoding (small_rsa_key modulus)) =
    ap subject_public_key half.is ∙ ap (λ (e : DerElement). bit_octets (encoding e)) (rsa_is modulus key info keys) in
    ap (λ (a : DerElement). sequence (a ∷ subject_public_key info.subject_public_key ∷ [])) algorithm
    ∙ ap (λ (k : DerElement). sequence (with_null RSA_ENCRYPTION.now ∷ k ∷ [])) bits

pub identifier_is : (modulus : List ℕ) (key : PrivateKey) (info : SubjectPublicKeyInfo) (id : List ℕ) → AreSmallKeys modulus key info
    → IsKeyIdentifier (SPKFullDER SHA2_256) info id → id ≡ small_key_id modulus
identifier_is modulus key info id keys identified =
    identified.2 ∙ ap (digest_of SHA2_256) (identified.1.0 ∙ ap encoding (info_is modulus key info keys))

rsa_der : (modulus : List ℕ) → IsSmallModulus modulus → IsDer (small_rsa_key modulus)
rsa_der modulus small = record {
  formed = ((omega arith, omega arith, omega arith), refl, (integer_formed modulus, (integer_formed (3 ∷ []), tt)));
  nested = omega arith;
  short = light_short (small_rsa_key modulus) (omega (arith, small.few));
}

pub keys_pair : (modulus : List ℕ) → IsSmallModulus modulus → (key : PrivateKey) (info : SubjectPublicKeyInfo) → AreSmallKeys modulus key info
    → IsKeyPair demo_pair key info
keys_pair modulus small key info keys =
    let half = half_of modulus key info keys in
    let same = rsa_is modulus key info keys in
    let bytes = encoding (rsa_public_key (public_numbers keys.private.rsa)) in
    inl (record {
      bytes = bytes;
      secret = small_secret modulus;
      public = subst (λ (k : SubjectKey). IsPkcs1Of k bytes) (sym half.is) (refl, subst IsDer (sym same) (rsa_der modulus small));
      private = subst (λ (v : PrivateKeyValue). IsPkcs1OfPrivate v (small_secret modulus)) (sym keys.private.container.is)
          (is_encoded modulus key keys.private, is_der modulus key keys.private);
      paired = demo_key_is modulus small ∙ ap (λ (e : DerElement). Some (encoding e)) (sym same);
    })

accepted_if : (long same : Bool) → (if long then (if same then Accept else Reject) else Malformed) ≡ Accept → (long ≡ true) × (same ≡ true)
accepted_if true true e = (refl, refl)
accepted_if true false e = absurd cc
accepted_if false same e = absurd cc

-- an accepted signature has 32 octets
pub signature_length : (info : SubjectPublicKeyInfo) (message signature : List ℕ) → Accepts demo_verdict (RsaPkcs1v15 SHA2_256) info message signature
    → length signature ≡ 32
signature_length info message signature accepted =
    eqb-true (length signature) 32
    (accepted_if (length signature == 32) (bytes_eq signature (demo_signature accepted.alg accepted.bytes message)) accepted.judged).0

accepted_is : (alg : SigAlg) (bytes message signature : List ℕ) → demo_verdict alg bytes message signature ≡ Accept
    → signature ≡ demo_signature alg bytes message
accepted_is alg bytes message signature e =
    (bytes_eq-Decides signature (demo_signature alg bytes message)).0
    (accepted_if (length signature == 32) (bytes_eq signature (demo_signature alg bytes message)) e).1

-- under a small key one signature of a message is accepted
pub signature_is : (modulus : List ℕ) (key : PrivateKey) (info : SubjectPublicKeyInfo) (message signature : List ℕ) → AreSmallKeys modulus key info
    → Accepts demo_verdict (RsaPkcs1v15 SHA2_256) info message signature → signature ≡ demo_signature RsaSha256 (encoding (small_rsa_key modulus)) message
signature_is modulus key info message signature keys accepted =
    let half = half_of modulus key info keys in
    let written = subst (λ (k : SubjectKey). IsPkcs1Of k accepted.bytes) half.is accepted.fits.1 in
    let bytes : accepted.bytes ≡ encoding (small_rsa_key modulus) = written.0 ∙ ap encoding (rsa_is modulus key info keys) in
    accepted_is accepted.alg accepted.bytes message signature accepted.judged
    ∙ ap (λ (a : SigAlg). demo_signature a accepted.bytes message) accepted.fits.0
    ∙ ap (λ (b : List ℕ). demo_signature RsaSha256 b message) bytes
