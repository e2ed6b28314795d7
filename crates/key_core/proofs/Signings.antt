-- Which rules a private key that fits an algorithm meets, that one error reports each rule, and
-- that a pair of keys fits together.
use Rattle.std.proofs.Common.{◌≡◌, ◌⊎◌, ℕ, List, [], ◌∷◌, Option, Some, None, Bool, true, false, refl, sym, ap, subst, ◌∙◌, inl, inr, length}
use Rattle.std.specs.Prelude.{Result, Ok, Err, IfOk, MatchResult}
use Rattle.der_core.specs.DerElement.{DerElement, Primitive}
use Rattle.der_core.specs.Encoding.{IsDer}
use Rattle.der_core.specs.Refusals.{RefusesInner}
use Rattle.der_core.specs.Rules.{IsMet, IsFirstBroken}
use Rattle.der_core.specs.declared.error.DerError.{DerError}
use Rattle.der_core.specs.declared.error.DerError.TheVariants as der
use Rattle.der_core.proofs.RuleLists.{AreMet, AreReturnedOnce, broken_behind, left_broken, returned_together}
use Rattle.asn1_types.specs.declared.bit_string.BitString.{BitString}
use Rattle.key_types.specs.declared.key_info.SubjectPublicKeyInfo.{SubjectPublicKeyInfo}
use Rattle.key_types.specs.declared.key_kind.KeyKind.TheVariants as kinds
use Rattle.key_types.specs.RsaPrivateKey.{rsa_private_key}
use Rattle.key_types.specs.declared.rsa_private_key.RsaPrivateKey.{RsaPrivateKey}
use Rattle.key_types.specs.declared.ec_private_key.ECPrivateKey.{ECPrivateKey}
use Rattle.sig_core.specs.Algorithm.{kind_of_algorithm}
use Rattle.sig_core.specs.declared.algorithm.SchemeKind.TheVariants as schemes
use Rattle.sig_core.specs.declared.algorithm.SigAlg.{SigAlg}
use Rattle.sig_core.specs.declared.algorithm.SigAlg.TheVariants as algs
use Rattle.sig_core.specs.declared.hash.HashAlgorithm.{HashAlgorithm}
use Rattle.sig_core.specs.declared.hash.HashAlgorithm.TheVariants as hashes
use Rattle.sig_core.specs.declared.scheme.Verdict.TheVariants as verdicts
use Rattle.key_core.specs.DerivedKeys.{curve_kind, ed_kind}
use Rattle.key_core.specs.EcCurve.{curve_identifier, field_size}
use Rattle.key_core.specs.EdAlgorithm.{ed_identifier}
use Rattle.key_core.specs.KeyRefusals.{CantBeWritten, unwritten}
use Rattle.key_core.specs.PrivateKeyValue.{private_kind}
use Rattle.key_core.specs.PrivatePkcs1.{IsPkcs1OfPrivate, RefusesPrivatePkcs1}
use Rattle.key_core.specs.SchemeNames.{rsa_alg, ecdsa_alg}
use Rattle.key_core.specs.SignatureRules.{RefusesSignatureBy, key_refusal}
use Rattle.key_core.specs.Signing.{HasCurveOf, HasEdOf, IsEd25519Secret, FitsSecret, Signs, Pair, IsAsked, IsKeyPair}
use Rattle.key_core.specs.Signing.{NotRsaSecret, UnwritableSecret, UnpairedSecret, WrongSecretSize, ForAgreementOnly}
use Rattle.key_core.specs.Signing.{NotEd25519Secret, WrongEdSize, Unsigned, scheme_refused, secret_rules, sign_rules}
use Rattle.key_core.specs.Verifying.{Judge, FitsKey, Accepts, IsPointOn}
use Rattle.key_core.specs.declared.ec_curve.EcCurve.{EcCurve}
use Rattle.key_core.specs.declared.ec_curve.EcCurve.TheVariants as curves
use Rattle.key_core.specs.declared.ed_algorithm.EdAlgorithm.{EdAlgorithm}
use Rattle.key_core.specs.declared.ed_algorithm.EdAlgorithm.TheVariants as ed
use Rattle.key_core.specs.declared.element.Element.TheVariants as elements
use Rattle.key_core.specs.declared.error.KeyContext.TheVariants as key_contexts
use Rattle.key_core.specs.declared.error.KeyError.{KeyError}
use Rattle.key_core.specs.declared.error.KeyError.TheVariants as key_errors
use Rattle.key_core.specs.declared.private_key.PrivateKey.{PrivateKey}
use Rattle.key_core.specs.declared.private_key_value.PrivateKeyValue.{PrivateKeyValue}
use Rattle.key_core.specs.declared.private_key_value.PrivateKeyValue.TheVariants as values
use Rattle.key_core.specs.declared.signature_algorithm.SignatureAlgorithm.{SignatureAlgorithm}
use Rattle.key_core.specs.declared.signature_algorithm.SignatureAlgorithm.TheVariants.{RsaPkcs1v15, Ecdsa, Ed25519}
use Rattle.key_core.specs.declared.signature_error.SigContext.TheVariants as contexts
use Rattle.key_core.specs.declared.signature_error.SignatureError.{SignatureError}
use Rattle.key_core.specs.declared.signature_error.SignatureError.TheVariants as errors
use Rattle.key_core.specs.declared.signature_error.Unsupported.TheVariants as unsupported
use Rattle.key_core.proofs.Curves.{same_curve, same_algorithm}
use Rattle.key_core.proofs.Unwritten.{written, one_source, alone}
use Rattle.key_core.proofs.Verifications.{deep_is_not_memory, long_is_not_memory, not_x25519}

-- ---- what a private key names

oid_once : (x y : List ℕ) → ◌≡◌ {A = Option DerElement} (Some (Primitive 0x06 x)) (Some (Primitive 0x06 y)) → x ≡ y
oid_once x y e = cc

pub one_curve_of : (key : PrivateKey) (a b : EcCurve) → HasCurveOf key a → HasCurveOf key b → a ≡ b
one_curve_of key a b p q = same_curve a b (oid_once (curve_identifier a) (curve_identifier b) (sym p ∙ q))

one_ed_of : (key : PrivateKey) (a b : EdAlgorithm) → HasEdOf key a → HasEdOf key b → a ≡ b
one_ed_of key a b p q = same_algorithm a b (sym p ∙ q)

same_rsa : (x y : RsaPrivateKey) → values.Rsa x ≡ values.Rsa y → x ≡ y
same_rsa x y e = cc

same_ec : (x y : ECPrivateKey) → values.Ec x ≡ values.Ec y → x ≡ y
same_ec x y e = cc

same_ed : (x y : List ℕ) → values.Ed x ≡ values.Ed y → x ≡ y
same_ed x y e = cc

same_bits : (x y : BitString) → ◌≡◌ {A = Option BitString} (Some x) (Some y) → x ≡ y
same_bits x y e = cc

none_is_not : (x : BitString) → ◌≡◌ {A = Option BitString} None (Some x) → ⊥
none_is_not x e = cc

ec_is_not_rsa : (x : ECPrivateKey) (y : RsaPrivateKey) → values.Ec x ≡ values.Rsa y → ⊥
ec_is_not_rsa x y e = cc

ed_is_not_rsa : (x : List ℕ) (y : RsaPrivateKey) → values.Ed x ≡ values.Rsa y → ⊥
ed_is_not_rsa x y e = cc

ec_is_not_ed : (x : ECPrivateKey) (y : List ℕ) → values.Ec x ≡ values.Ed y → ⊥
ec_is_not_ed x y e = cc

-- ---- a private key that fits an algorithm meets the rules for keys

rsa_kind : (key : PrivateKeyValue) (secret : List ℕ) → IsPkcs1OfPrivate key secret → private_kind key ≡ kinds.Rsa
rsa_kind (values.Rsa key) secret of = refl
rsa_kind (values.Ec key) secret of = absurd of
rsa_kind (values.Ed octets) secret of = absurd of

rsa_der : (key : PrivateKeyValue) (secret : List ℕ) → IsPkcs1OfPrivate key secret → (k : RsaPrivateKey) → key ≡ values.Rsa k → IsDer (rsa_private_key k)
rsa_der (values.Rsa key) secret of k is = subst (λ x. IsDer (rsa_private_key x)) (same_rsa key k is) of.1
rsa_der (values.Ec key) secret of k is = absurd of
rsa_der (values.Ed octets) secret of k is = absurd of

rsa_once : (key : PrivateKeyValue) (x y : List ℕ) → IsPkcs1OfPrivate key x → IsPkcs1OfPrivate key y → x ≡ y
rsa_once (values.Rsa key) x y p q = p.0 ∙ sym q.0
rsa_once (values.Ec key) x y p q = absurd p
rsa_once (values.Ed octets) x y p q = absurd p

rsa_is_not_ec : (key : PrivateKeyValue) (secret : List ℕ) (ec : ECPrivateKey) → IsPkcs1OfPrivate key secret → key ≡ values.Ec ec → ⊥
rsa_is_not_ec (values.Rsa key) secret ec of is = cc
rsa_is_not_ec (values.Ec key) secret ec of is = of
rsa_is_not_ec (values.Ed octets) secret ec of is = of

rsa_is_not_ed : (key : PrivateKeyValue) (secret octets : List ℕ) → IsPkcs1OfPrivate key secret → key ≡ values.Ed octets → ⊥
rsa_is_not_ed (values.Rsa key) secret octets of is = cc
rsa_is_not_ed (values.Ec key) secret octets of is = of
rsa_is_not_ed (values.Ed others) secret octets of is = of

pub secret_met : (algorithm : SignatureAlgorithm) (key : PrivateKey) (alg : SigAlg) (secret : List ℕ) → FitsSecret algorithm key alg secret
    → AreMet (secret_rules algorithm key)
secret_met (RsaPkcs1v15 hash) key alg secret fits = (λ e broken. broken.0 (rsa_kind key.info.private_key secret fits.1), tt)
secret_met (Ecdsa hash) key alg secret fits =
    let curve = fits.0 in
    let on = fits.3 in
    let sized : AreMet (WrongSecretSize key ∷ []) = (
      λ e broken. broken.4 (
          ap (λ (k : ECPrivateKey). length k.private_key) (same_ec broken.1 on.ec (sym broken.3 ∙ on.is))
          ∙ ap length (sym on.octets) ∙ on.size
          ∙ ap field_size (one_curve_of key curve broken.0 on.on broken.2)
          ),
      tt,
    ) in
    let paired : AreMet (UnpairedSecret key hash ∷ WrongSecretSize key ∷ []) =
    (λ e broken. broken.2 (fits.1 ∙ ap Some (one_curve_of key curve broken.0 on.on broken.1)), sized) in
    (λ e broken. broken.0 (ap private_kind on.is), (λ e broken. broken.0 curve on.on, paired))
secret_met Ed25519 key alg secret fits =
    let of = fits.1 in
    let sized : AreMet (WrongEdSize key ∷ []) = (
      λ e broken. broken.4 (
        ap (λ (b : BitString). length b.payload) (same_bits broken.0 of.bits (sym broken.2 ∙ of.public_key)) ∙ of.public_size,
        ap length (same_ed broken.1 secret (sym broken.3 ∙ of.is)) ∙ of.size,
      ),
      tt,
    ) in
    let known : AreMet (ForAgreementOnly key ∷ NotEd25519Secret key ∷ WrongEdSize key ∷ []) =
    (λ e broken. not_x25519 (one_ed_of key ed.Ed25519 ed.X25519 of.of broken.0), (λ e broken. broken.0 of.of, sized)) in
    (λ e broken. broken.0 (ap private_kind of.is), (λ e broken. none_is_not of.bits (sym broken.0 ∙ of.public_key), known))

pub writable_secret : (algorithm : SignatureAlgorithm) (key : PrivateKey) (alg : SigAlg) (secret : List ℕ) → FitsSecret algorithm key alg secret
    → IsMet (UnwritableSecret key)
writable_secret (RsaPkcs1v15 hash) key alg secret fits =
    λ e broken. written (rsa_private_key broken.rsa) broken.source (rsa_der key.info.private_key secret fits.1 broken.rsa broken.is) broken.cause
writable_secret (Ecdsa hash) key alg secret fits = λ e broken. ec_is_not_rsa fits.3.ec broken.rsa (sym fits.3.is ∙ broken.is)
writable_secret Ed25519 key alg secret fits = λ e broken. ed_is_not_rsa secret broken.rsa (sym fits.1.is ∙ broken.is)

-- ---- a key has one name and one secret

pub one_secret : (algorithm : SignatureAlgorithm) (key : PrivateKey) (a b : SigAlg) (x y : List ℕ)
    → FitsSecret algorithm key a x → FitsSecret algorithm key b y → (a ≡ b) × (x ≡ y)
one_secret (RsaPkcs1v15 hash) key a b x y p q = (p.0 ∙ sym q.0, rsa_once key.info.private_key x y p.1 q.1)
one_secret (Ecdsa hash) key a b x y p q = (
  p.2 ∙ ap ecdsa_alg (one_curve_of key p.0 q.0 p.3.on q.3.on) ∙ sym q.2,
  p.3.octets ∙ ap (λ (k : ECPrivateKey). k.private_key) (same_ec p.3.ec q.3.ec (sym p.3.is ∙ q.3.is)) ∙ sym q.3.octets,
)
one_secret Ed25519 key a b x y p q = (p.0 ∙ sym q.0, same_ed x y (sym p.1.is ∙ q.1.is))

pub one_asked : (signs : Signs) (algorithm : SignatureAlgorithm) (key : PrivateKey) (msg : List ℕ) (v w : Bool)
    → IsAsked signs algorithm key msg v → IsAsked signs algorithm key msg w → v ≡ w
one_asked signs algorithm key msg v w p q =
    let same = one_secret algorithm key p.alg q.alg p.secret q.secret p.fits q.fits in
    sym p.signed ∙ ap (λ (alg : SigAlg). signs alg p.secret msg) same.0 ∙ ap (λ (secret : List ℕ). signs q.alg secret msg) same.1 ∙ q.signed

-- ---- one error reports each rule

unpaired_once : (key : PrivateKey) (hash : HashAlgorithm) (a b : SignatureError) → UnpairedSecret key hash a → UnpairedSecret key hash b → a ≡ b
unpaired_once key hash a b p q = p.3 ∙ ap (λ (curve : EcCurve). errors.UnsupportedAlgorithm (unsupported.Pairing curve hash)) (one_curve_of key p.0 q.0 p.1 q.1)
    ∙ sym q.3

unwritable_once : (key : PrivateKey) (a b : SignatureError) → UnwritableSecret key a → UnwritableSecret key b → a ≡ b
unwritable_once key a b p q =
    let rsa : p.rsa ≡ q.rsa = same_rsa p.rsa q.rsa (sym p.is ∙ q.is) in
    let other : CantBeWritten (rsa_private_key p.rsa) q.source = subst (λ (k : RsaPrivateKey). CantBeWritten (rsa_private_key k) q.source) (sym rsa) q.cause in
    p.error
    ∙ ap (λ (source : DerError). errors.Key (key_errors.Asn1Serialization elements.RsaPrivateKey source))
    (one_source (rsa_private_key p.rsa) p.source q.source p.cause other)
    ∙ sym q.error

pub secret_one : (algorithm : SignatureAlgorithm) (key : PrivateKey) → AreReturnedOnce (secret_rules algorithm key)
secret_one (RsaPkcs1v15 hash) key = (λ a b p q. p.1 ∙ sym q.1, tt)
secret_one (Ecdsa hash) key = (λ a b p q. p.1 ∙ sym q.1, (λ a b p q. p.1 ∙ sym q.1, (unpaired_once key hash, (λ a b p q. p.5 ∙ sym q.5, tt))))
secret_one Ed25519 key =
    (λ a b p q. p.1 ∙ sym q.1, (λ a b p q. p.1 ∙ sym q.1, (λ a b p q. p.1 ∙ sym q.1, (λ a b p q. p.1 ∙ sym q.1, (λ a b p q. p.5 ∙ sym q.5, tt)))))

pub sign_one : (signs : Signs) (algorithm : SignatureAlgorithm) (key : PrivateKey) (msg : List ℕ) → AreReturnedOnce (sign_rules signs algorithm key msg)
sign_one signs algorithm key msg =
    returned_together (secret_rules algorithm key) (UnwritableSecret key ∷ Unsigned signs algorithm key msg ∷ [])
    (secret_one algorithm key) (unwritable_once key, (λ a b p q. p.1 ∙ sym q.1, tt))

-- ---- the whole

true_is_not_false : true ≡ false → ⊥
true_is_not_false e = cc

pub asked_is_met : (signs : Signs) (algorithm : SignatureAlgorithm) (key : PrivateKey) (msg : List ℕ) (e : SignatureError)
    → IsAsked signs algorithm key msg true → IsFirstBroken (sign_rules signs algorithm key msg) e → ⊥
asked_is_met signs algorithm key msg e asked broken =
    later (left_broken (secret_rules algorithm key) _ e (secret_met algorithm key asked.alg asked.secret asked.fits) broken)
  where
    later : IsFirstBroken (UnwritableSecret key ∷ Unsigned signs algorithm key msg ∷ []) e → ⊥
    later (inl broken) = writable_secret algorithm key asked.alg asked.secret asked.fits e broken
    later (inr (met, inl unsigned)) = true_is_not_false (one_asked signs algorithm key msg true false asked unsigned.0)
    later (inr (met, inr none)) = none.1

pub unsigned_is_broken : (signs : Signs) (algorithm : SignatureAlgorithm) (key : PrivateKey) (msg : List ℕ)
    → IsAsked signs algorithm key msg false → IsFirstBroken (sign_rules signs algorithm key msg) (scheme_refused algorithm)
unsigned_is_broken signs algorithm key msg asked =
    broken_behind (secret_rules algorithm key) _ (scheme_refused algorithm) (secret_met algorithm key asked.alg asked.secret asked.fits)
    (inr (writable_secret algorithm key asked.alg asked.secret asked.fits, inl (asked, refl)))

-- what the scheme made, or why it made nothing
pub made_of : {X : Type 0} (signs : Signs) (algorithm : SignatureAlgorithm) (key : PrivateKey) (msg : List ℕ) (alg : SigAlg) (secret : List ℕ)
    → FitsSecret algorithm key alg secret
    → (r : Result X SignatureError)
    → MatchResult r (λ _. signs alg secret msg ≡ true) (λ e. ((signs alg secret msg ≡ false) × (e ≡ scheme_refused algorithm)) ⊎ (e ≡ errors.Memory))
    → MatchResult r (λ _. IsAsked signs algorithm key msg true) (RefusesSignatureBy (sign_rules signs algorithm key msg))
made_of signs algorithm key msg alg secret fits (Ok x) signed = record { alg = alg; secret = secret; fits = fits; signed = signed }
made_of signs algorithm key msg alg secret fits (Err e) (inr memory) = inr memory
made_of signs algorithm key msg alg secret fits (Err e) (inl unsigned) =
    inl (subst (IsFirstBroken (sign_rules signs algorithm key msg)) (sym unsigned.1)
    (unsigned_is_broken signs algorithm key msg (record { alg = alg; secret = secret; fits = fits; signed = unsigned.0 })))

-- the same, given the algorithm by an equation
pub made_by : {X : Type 0} (signs : Signs) (self algorithm : SignatureAlgorithm) → self ≡ algorithm
    → (key : PrivateKey) (msg : List ℕ) (alg : SigAlg) (secret : List ℕ) → FitsSecret algorithm key alg secret
    → (r : Result X SignatureError)
    → MatchResult r (λ _. signs alg secret msg ≡ true) (λ e. ((signs alg secret msg ≡ false) × (e ≡ scheme_refused algorithm)) ⊎ (e ≡ errors.Memory))
    → MatchResult r (λ _. IsAsked signs self key msg true) (RefusesSignatureBy (sign_rules signs self key msg))
made_by signs self algorithm is key msg alg secret fits r signed =
    subst (λ (a : SignatureAlgorithm). MatchResult r (λ _. IsAsked signs a key msg true) (RefusesSignatureBy (sign_rules signs a key msg))) (sym is)
    (made_of signs algorithm key msg alg secret fits r signed)

-- ---- pairs of keys

rsa_scheme : (hash : HashAlgorithm) → kind_of_algorithm (rsa_alg hash) ≡ schemes.Rsa
rsa_scheme hashes.MD5 = refl
rsa_scheme hashes.SHA1 = refl
rsa_scheme hashes.SHA2_224 = refl
rsa_scheme hashes.SHA2_256 = refl
rsa_scheme hashes.SHA2_384 = refl
rsa_scheme hashes.SHA2_512 = refl

ecdsa_scheme : (curve : EcCurve) → kind_of_algorithm (ecdsa_alg curve) ≡ curve_kind curve
ecdsa_scheme curves.NistP256 = refl
ecdsa_scheme curves.NistP384 = refl
ecdsa_scheme curves.NistP521 = refl

-- the public key of a pair fits the algorithm, by the same name, and the scheme pairs its key bytes
-- with the secret
pub pair_fits : (pair : Pair) (algorithm : SignatureAlgorithm) (key : PrivateKey) (info : SubjectPublicKeyInfo) (alg : SigAlg) (secret : List ℕ)
    → FitsSecret algorithm key alg secret → IsKeyPair pair key info
    → (bytes : List ℕ) × FitsKey algorithm info alg bytes × pair (kind_of_algorithm alg) bytes secret
pair_fits pair (RsaPkcs1v15 hash) key info alg secret fits (inl p) = (
  p.bytes,
  (fits.0, p.public),
  subst (λ a. pair (kind_of_algorithm a) p.bytes secret) (sym fits.0)
      (subst (λ k. pair k p.bytes secret) (sym (rsa_scheme hash))
      (subst (λ s. pair schemes.Rsa p.bytes s) (rsa_once key.info.private_key p.secret secret p.private fits.1) p.paired)),
)
pair_fits pair (RsaPkcs1v15 hash) key info alg secret fits (inr (inl p)) = absurd (rsa_is_not_ec key.info.private_key secret p.1.ec fits.1 p.1.private)
pair_fits pair (RsaPkcs1v15 hash) key info alg secret fits (inr (inr p)) = absurd (rsa_is_not_ed key.info.private_key secret p.1.secret fits.1 p.1.private)
pair_fits pair (Ecdsa hash) key info alg secret fits (inl p) = absurd (rsa_is_not_ec key.info.private_key p.secret fits.3.ec p.private fits.3.is)
pair_fits pair (Ecdsa hash) key info alg secret fits (inr (inl p)) =
    let same = one_curve_of key p.0 fits.0 p.1.on fits.3.on in (
      p.1.bytes,
      (fits.0, fits.1, fits.2, subst (λ c. IsPointOn c info p.1.bytes) same p.1.public),
      subst (λ a. pair (kind_of_algorithm a) p.1.bytes secret) (sym fits.2)
          (subst (λ k. pair k p.1.bytes secret) (sym (ecdsa_scheme fits.0))
          (subst (λ c. pair (curve_kind c) p.1.bytes secret) same
          (subst (λ s. pair (curve_kind p.0) p.1.bytes s) (ap (λ (k : ECPrivateKey). k.private_key) (same_ec p.1.ec fits.3.ec (sym p.1.private ∙ fits.3.is))
          ∙ sym fits.3.octets) p.1.paired))),
    )
pair_fits pair (Ecdsa hash) key info alg secret fits (inr (inr p)) = absurd (ec_is_not_ed fits.3.ec p.1.secret (sym fits.3.is ∙ p.1.private))
pair_fits pair Ed25519 key info alg secret fits (inl p) = absurd (rsa_is_not_ed key.info.private_key p.secret secret p.private fits.1.is)
pair_fits pair Ed25519 key info alg secret fits (inr (inl p)) = absurd (ec_is_not_ed p.1.ec secret (sym p.1.private ∙ fits.1.is))
pair_fits pair Ed25519 key info alg secret fits (inr (inr p)) =
    let same = one_ed_of key p.0 ed.Ed25519 p.1.of fits.1.of in (
      p.1.bits.payload,
      (fits.0, record { bits = p.1.bits; is = p.1.public; of = p.1.also ∙ ap ed_identifier same; payload = refl; size = p.1.size same }),
      subst (λ a. pair (kind_of_algorithm a) p.1.bits.payload secret) (sym fits.0)
          (subst (λ k. pair (ed_kind k) p.1.bits.payload secret) same
          (subst (λ s. pair (ed_kind p.0) p.1.bits.payload s) (same_ed p.1.secret secret (sym p.1.private ∙ fits.1.is)) p.1.paired)),
    )

pub pair_accepts : (judge : Judge) (pair : Pair) (algorithm : SignatureAlgorithm) (key : PrivateKey) (info : SubjectPublicKeyInfo) (alg : SigAlg)
    (secret msg sig : List ℕ)
    → FitsSecret algorithm key alg secret → ((bytes : List ℕ) → pair (kind_of_algorithm alg) bytes secret → judge alg bytes msg sig ≡ verdicts.Accept)
    → IsKeyPair pair key info → Accepts judge algorithm info msg sig
pair_accepts judge pair algorithm key info alg secret msg sig fits made together =
    let p = pair_fits pair algorithm key info alg secret fits together in
    record { alg = alg; bytes = p.0; fits = p.1; judged = made p.0 p.2 }

-- what the scheme made is accepted under each public key of the pair
pub made_accepts : {X : Type 0} (items : X → List ℕ) (judge : Judge) (pair : Pair) (self algorithm : SignatureAlgorithm) → self ≡ algorithm
    → (key : PrivateKey) (alg : SigAlg) (secret msg : List ℕ) → FitsSecret algorithm key alg secret → (r : Result X SignatureError)
    → IfOk r (λ sig. (bytes : List ℕ) → pair (kind_of_algorithm alg) bytes secret → judge alg bytes msg (items sig) ≡ verdicts.Accept)
    → IfOk r (λ sig. (info : SubjectPublicKeyInfo) → IsKeyPair pair key info → Accepts judge self info msg (items sig))
made_accepts items judge pair self algorithm is key alg secret msg fits (Err e) made = tt
made_accepts items judge pair self algorithm is key alg secret msg fits (Ok sig) made =
    λ info together. subst (λ (a : SignatureAlgorithm). Accepts judge a info msg (items sig)) (sym is)
    (pair_accepts judge pair algorithm key info alg secret msg (items sig) fits made together)

-- ---- keys, rule by rule

rsa_unwritten : (key : PrivateKey) (k : RsaPrivateKey) → key.info.private_key ≡ values.Rsa k → (x : DerError) (source : KeyError)
    → source ≡ unwritten elements.RsaPrivateKey x → RefusesInner (rsa_private_key k ∷ []) x
    → RefusesSignatureBy (NotRsaSecret key ∷ UnwritableSecret key ∷ []) (key_refusal source)
rsa_unwritten key k is (der.Malformed m) source e refused = absurd refused
rsa_unwritten key k is der.Shape source e refused = absurd refused
rsa_unwritten key k is der.TooDeep source e refused =
    inl (inr (
      λ other broken. broken.0 (ap private_kind is),
      inl (record {
        rsa = k;
        is = is;
        source = der.TooDeep;
        cause = alone (rsa_private_key k) der.TooDeep deep_is_not_memory refused;
        error = ap key_refusal e;
      }),
    ))
rsa_unwritten key k is der.TooLong source e refused =
    inl (inr (
      λ other broken. broken.0 (ap private_kind is),
      inl (record {
        rsa = k;
        is = is;
        source = der.TooLong;
        cause = alone (rsa_private_key k) der.TooLong long_is_not_memory refused;
        error = ap key_refusal e;
      }),
    ))
rsa_unwritten key k is der.Memory source e refused = inr (ap key_refusal e)

ec_is_not_of_rsa : kinds.Ec ≡ kinds.Rsa → ⊥
ec_is_not_of_rsa e = cc

ed_is_not_of_rsa : kinds.Ed ≡ kinds.Rsa → ⊥
ed_is_not_of_rsa e = cc

rsa_refused_of : (key : PrivateKey) (value : PrivateKeyValue) (source : KeyError) → key.info.private_key ≡ value
    → RefusesPrivatePkcs1 value source → RefusesSignatureBy (NotRsaSecret key ∷ UnwritableSecret key ∷ []) (key_refusal source)
rsa_refused_of key (values.Rsa k) source is refused = rsa_unwritten key k is refused.0 source refused.1 refused.2
rsa_refused_of key (values.Ec k) source is refused = inl (inl (λ kind. ec_is_not_of_rsa (sym (ap private_kind is) ∙ kind), ap key_refusal refused))
rsa_refused_of key (values.Ed k) source is refused = inl (inl (λ kind. ed_is_not_of_rsa (sym (ap private_kind is) ∙ kind), ap key_refusal refused))

pub rsa_refused : (key : PrivateKey) (source : KeyError) → RefusesPrivatePkcs1 key.info.private_key source
    → RefusesSignatureBy (NotRsaSecret key ∷ UnwritableSecret key ∷ []) (key_refusal source)
rsa_refused key source refused = rsa_refused_of key key.info.private_key source refl refused

-- an Ed25519 key has 32 octets or another size
pub ed_sized : {X : Type 0} (now : X → List ℕ) (key : PrivateKey) (bits : BitString) (secret : List ℕ) → key.info.private_key ≡ values.Ed secret
    → key.public_key ≡ Some bits → HasEdOf key ed.Ed25519
    → (r : Result X SignatureError)
    → MatchResult r (λ octets. (now octets ≡ secret) × (length bits.payload ≡ 32) × (length secret ≡ 32))
    (λ e. ((length bits.payload ≡ 32) × (length secret ≡ 32) → ⊥) × (e ≡ errors.Ed contexts.KeySize))
    → MatchResult r (λ octets. IsEd25519Secret key (now octets)) (IsFirstBroken (secret_rules Ed25519 key))
ed_sized now key bits secret is public of (Ok octets) sized =
    record { is = is ∙ ap values.Ed (sym sized.0); of = of; size = ap length sized.0 ∙ sized.2; bits = bits; public_key = public; public_size = sized.1 }
ed_sized now key bits secret is public of (Err e) sized =
    inr (
      λ other broken. broken.0 (ap private_kind is),
      inr (
        λ other broken. none_is_not bits (sym broken.0 ∙ public),
        inr (
          λ other broken. not_x25519 (one_ed_of key ed.Ed25519 ed.X25519 of broken.0),
          inr (λ other broken. broken.0 of, inl (bits, secret, public, is, sized.0, sized.1)),
        ),
      ),
    )

pub ed_unknown : (key : PrivateKey) (bits : BitString) (secret : List ℕ) → key.info.private_key ≡ values.Ed secret → key.public_key ≡ Some bits
    → ((algorithm : EdAlgorithm) → HasEdOf key algorithm → ⊥)
    → IsFirstBroken (secret_rules Ed25519 key) (errors.Key (key_errors.ED key_contexts.UnsupportedEd))
ed_unknown key bits secret is public none =
    inr (
      λ other broken. broken.0 (ap private_kind is),
      inr (λ other broken. none_is_not bits (sym broken.0 ∙ public), inr (λ other broken. none ed.X25519 broken.0, inl (none ed.Ed25519, refl))),
    )
