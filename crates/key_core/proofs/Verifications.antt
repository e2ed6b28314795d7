-- Which rules a key that fits an algorithm meets, and that one error reports each rule.
use Rattle.std.proofs.Common.{◌≡◌, ◌≢◌, ℕ, List, [], ◌∷◌, ◌++◌, Option, Some, None, refl, sym, ap, subst, ◌∙◌, inl, inr, length}
use Rattle.std.specs.Prelude.{Result, Ok, Err, MatchResult}
use Rattle.der_core.specs.DerElement.{DerElement, Primitive}
use Rattle.der_core.specs.Encoding.{IsDer}
use Rattle.der_core.specs.Refusals.{RefusesInner}
use Rattle.der_core.specs.Rules.{IsMet, IsFirstBroken}
use Rattle.der_core.specs.declared.error.DerError.{DerError}
use Rattle.der_core.specs.declared.error.DerError.TheVariants as der
use Rattle.der_core.proofs.RuleLists.{AreMet, AreReturnedOnce, broken_behind, early_in, left_broken, returned_together}
use Rattle.asn1_types.specs.declared.bit_string.BitString.{BitString}
use Rattle.key_types.specs.RsaPublicKey.{rsa_public_key}
use Rattle.key_types.specs.SubjectKey.{kind_of_key}
use Rattle.key_types.specs.declared.key_info.SubjectPublicKeyInfo.{SubjectPublicKeyInfo}
use Rattle.key_types.specs.declared.key_kind.KeyKind.TheVariants as kinds
use Rattle.key_types.specs.declared.public_key.RsaPublicKey.{RsaPublicKey}
use Rattle.key_types.specs.declared.subject_key.SubjectKey.{SubjectKey}
use Rattle.key_types.specs.declared.subject_key.SubjectKey.TheVariants as keys
use Rattle.sig_core.specs.declared.algorithm.SigAlg.{SigAlg}
use Rattle.sig_core.specs.declared.hash.HashAlgorithm.{HashAlgorithm}
use Rattle.sig_core.specs.declared.scheme.Verdict.{Verdict}
use Rattle.sig_core.specs.declared.scheme.Verdict.TheVariants as verdicts
use Rattle.key_core.specs.EcCurve.{curve_identifier}
use Rattle.key_core.specs.KeyRefusals.{CantBeWritten, unwritten}
use Rattle.key_core.specs.Pkcs1.{IsPkcs1Of, RefusesPkcs1}
use Rattle.key_core.specs.SchemeNames.{ecdsa_alg}
use Rattle.key_core.specs.SignatureRules.{RefusesSignatureBy, key_refusal}
use Rattle.key_core.specs.Verifying.{Judge, IsOnCurve, IsOfEd, IsEd25519Key, FitsKey, IsJudged, Accepts, NotRsa, Unwritable, UnknownHash}
use Rattle.key_core.specs.Verifying.{Unpaired, ForAgreement, NotEd25519, WrongSize, Malformed, Rejected, malformed, key_rules, verify_rules}
use Rattle.key_core.specs.declared.ec_curve.EcCurve.{EcCurve}
use Rattle.key_core.specs.declared.ed_algorithm.EdAlgorithm.{EdAlgorithm}
use Rattle.key_core.specs.declared.ed_algorithm.EdAlgorithm.TheVariants as ed
use Rattle.key_core.specs.declared.element.Element.TheVariants as elements
use Rattle.key_core.specs.declared.error.KeyContext.TheVariants as key_contexts
use Rattle.key_core.specs.declared.error.KeyError.{KeyError}
use Rattle.key_core.specs.declared.error.KeyError.TheVariants as key_errors
use Rattle.key_core.specs.declared.signature_algorithm.SignatureAlgorithm.{SignatureAlgorithm}
use Rattle.key_core.specs.declared.signature_algorithm.SignatureAlgorithm.TheVariants.{RsaPkcs1v15, Ecdsa, Ed25519}
use Rattle.key_core.specs.declared.signature_error.SigContext.TheVariants as contexts
use Rattle.key_core.specs.declared.signature_error.SignatureError.{SignatureError}
use Rattle.key_core.specs.declared.signature_error.SignatureError.TheVariants as errors
use Rattle.key_core.specs.declared.signature_error.Unsupported.TheVariants as unsupported
use Rattle.key_core.proofs.Curves.{same_curve, same_algorithm}
use Rattle.key_core.proofs.Unwritten.{written, one_source, alone}

-- ---- what a key names

point_once : (x y : List ℕ) → ◌≡◌ {A = Option DerElement} (Some (Primitive 0x06 x)) (Some (Primitive 0x06 y)) → x ≡ y
point_once x y e = cc

pub one_curve : (info : SubjectPublicKeyInfo) (a b : EcCurve) → IsOnCurve info a → IsOnCurve info b → a ≡ b
one_curve info a b p q = same_curve a b (point_once (curve_identifier a) (curve_identifier b) (sym p ∙ q))

pub one_ed : (info : SubjectPublicKeyInfo) (a b : EdAlgorithm) → IsOfEd info a → IsOfEd info b → a ≡ b
one_ed info a b p q = same_algorithm a b (sym p ∙ q)

same_rsa : (x y : RsaPublicKey) → keys.Rsa x ≡ keys.Rsa y → x ≡ y
same_rsa x y e = cc

same_ec : (x y : BitString) → keys.Ec x ≡ keys.Ec y → x ≡ y
same_ec x y e = cc

same_ed : (x y : BitString) → keys.Ed x ≡ keys.Ed y → x ≡ y
same_ed x y e = cc

same_some : {A : Type 0} (x y : A) → Some x ≡ Some y → x ≡ y
same_some x y e = cc

pub not_x25519 : ed.Ed25519 ≡ ed.X25519 → ⊥
not_x25519 e = cc

-- ---- a key that fits an algorithm meets the rules for keys

rsa_kind : (key : SubjectKey) (bytes : List ℕ) → IsPkcs1Of key bytes → kind_of_key key ≡ kinds.Rsa
rsa_kind (keys.Rsa key) bytes of = refl
rsa_kind (keys.Ec bits) bytes of = absurd of
rsa_kind (keys.Ed bits) bytes of = absurd of
rsa_kind (keys.Mldsa bits) bytes of = absurd of

rsa_der : (key : SubjectKey) (bytes : List ℕ) → IsPkcs1Of key bytes → (k : RsaPublicKey) → key ≡ keys.Rsa k → IsDer (rsa_public_key k)
rsa_der (keys.Rsa key) bytes of k is = subst (λ x. IsDer (rsa_public_key x)) (same_rsa key k is) of.1
rsa_der (keys.Ec bits) bytes of k is = absurd of
rsa_der (keys.Ed bits) bytes of k is = absurd of
rsa_der (keys.Mldsa bits) bytes of k is = absurd of

ec_is_not_rsa : (bits : BitString) (k : RsaPublicKey) → keys.Ec bits ≡ keys.Rsa k → ⊥
ec_is_not_rsa bits k e = cc

ed_is_not_rsa : (bits : BitString) (k : RsaPublicKey) → keys.Ed bits ≡ keys.Rsa k → ⊥
ed_is_not_rsa bits k e = cc

pub key_met : (algorithm : SignatureAlgorithm) (info : SubjectPublicKeyInfo) (alg : SigAlg) (bytes : List ℕ) → FitsKey algorithm info alg bytes
    → AreMet (key_rules algorithm info)
key_met (RsaPkcs1v15 hash) info alg bytes fits = (λ e broken. broken.0 (rsa_kind info.subject_public_key bytes fits.1), tt)
key_met (Ecdsa hash) info alg bytes fits =
    let curve = fits.0 in
    let point = fits.3 in
    let paired : AreMet (Unpaired info hash ∷ []) = (λ e broken. broken.2 (fits.1 ∙ ap Some (one_curve info curve broken.0 point.on broken.1)), tt) in
    let known : AreMet (UnknownHash hash ∷ Unpaired info hash ∷ []) = (λ e broken. not_none curve (sym broken.0 ∙ fits.1), paired) in
    (λ e broken. broken.0 (ap kind_of_key point.is), (λ e broken. broken.0 curve point.on, known))
  where
    not_none : (x : EcCurve) → ◌≡◌ {A = Option EcCurve} None (Some x) → ⊥
    not_none x e = cc
key_met Ed25519 info alg bytes fits =
    let key = fits.1 in
    let sized : AreMet (WrongSize info ∷ []) = (
      λ e broken. broken.2 (ap (λ (b : BitString). length b.payload) (same_ed broken.0 key.bits (sym broken.1 ∙ key.is)) ∙ ap length (sym key.payload)
          ∙ key.size),
      tt,
    ) in
    let known : AreMet (ForAgreement info ∷ NotEd25519 info ∷ WrongSize info ∷ []) =
    (λ e broken. not_x25519 (one_ed info ed.Ed25519 ed.X25519 key.of broken.0), (λ e broken. broken.0 key.of, sized)) in
    (λ e broken. broken.0 (ap kind_of_key key.is), known)

pub writable : (algorithm : SignatureAlgorithm) (info : SubjectPublicKeyInfo) (alg : SigAlg) (bytes : List ℕ) → FitsKey algorithm info alg bytes
    → IsMet (Unwritable info)
writable (RsaPkcs1v15 hash) info alg bytes
    fits = λ e broken. written (rsa_public_key broken.key) broken.source (rsa_der info.subject_public_key bytes fits.1 broken.key broken.is) broken.cause
writable (Ecdsa hash) info alg bytes fits = λ e broken. ec_is_not_rsa fits.3.bits broken.key (sym fits.3.is ∙ broken.is)
writable Ed25519 info alg bytes fits = λ e broken. ed_is_not_rsa fits.1.bits broken.key (sym fits.1.is ∙ broken.is)

-- ---- a key has one name and one sequence of octets

rsa_bytes_once : (key : SubjectKey) (x y : List ℕ) → IsPkcs1Of key x → IsPkcs1Of key y → x ≡ y
rsa_bytes_once (keys.Rsa key) x y p q = p.0 ∙ sym q.0
rsa_bytes_once (keys.Ec bits) x y p q = absurd p
rsa_bytes_once (keys.Ed bits) x y p q = absurd p
rsa_bytes_once (keys.Mldsa bits) x y p q = absurd p

pub one_fit : (algorithm : SignatureAlgorithm) (info : SubjectPublicKeyInfo) (a b : SigAlg) (x y : List ℕ)
    → FitsKey algorithm info a x → FitsKey algorithm info b y → (a ≡ b) × (x ≡ y)
one_fit (RsaPkcs1v15 hash) info a b x y p q = (p.0 ∙ sym q.0, rsa_bytes_once info.subject_public_key x y p.1 q.1)
one_fit (Ecdsa hash) info a b x y p q = (
  p.2 ∙ ap ecdsa_alg (one_curve info p.0 q.0 p.3.on q.3.on) ∙ sym q.2,
  p.3.payload ∙ ap (λ (b : BitString). b.payload) (same_ec p.3.bits q.3.bits (sym p.3.is ∙ q.3.is)) ∙ sym q.3.payload,
)
one_fit Ed25519 info a b x y p q = (
  p.0 ∙ sym q.0,
  p.1.payload ∙ ap (λ (b : BitString). b.payload) (same_ed p.1.bits q.1.bits (sym p.1.is ∙ q.1.is)) ∙ sym q.1.payload,
)

pub one_verdict : (judge : Judge) (algorithm : SignatureAlgorithm) (info : SubjectPublicKeyInfo) (msg sig : List ℕ) (v w : Verdict)
    → IsJudged judge algorithm info msg sig v → IsJudged judge algorithm info msg sig w → v ≡ w
one_verdict judge algorithm info msg sig v w p q =
    let same = one_fit algorithm info p.alg q.alg p.bytes q.bytes p.fits q.fits in
    sym p.judged ∙ ap (λ (alg : SigAlg). judge alg p.bytes msg sig) same.0 ∙ ap (λ (bytes : List ℕ). judge q.alg bytes msg sig) same.1 ∙ q.judged

-- ---- one error reports each rule

unpaired_once : (info : SubjectPublicKeyInfo) (hash : HashAlgorithm) (a b : SignatureError) → Unpaired info hash a → Unpaired info hash b → a ≡ b
unpaired_once info hash a b p q = p.3 ∙ ap (λ (curve : EcCurve). errors.UnsupportedAlgorithm (unsupported.Pairing curve hash)) (one_curve info p.0 q.0 p.1 q.1)
    ∙ sym q.3

unwritable_once : (info : SubjectPublicKeyInfo) (a b : SignatureError) → Unwritable info a → Unwritable info b → a ≡ b
unwritable_once info a b p q =
    let key : p.key ≡ q.key = same_rsa p.key q.key (sym p.is ∙ q.is) in
    let other : CantBeWritten (rsa_public_key p.key) q.source = subst (λ (k : RsaPublicKey). CantBeWritten (rsa_public_key k) q.source) (sym key) q.cause in
    p.error
    ∙ ap (λ (source : DerError). errors.Key (key_errors.Asn1Serialization elements.RsaPublicKey source))
    (one_source (rsa_public_key p.key) p.source q.source p.cause other)
    ∙ sym q.error

pub key_one : (algorithm : SignatureAlgorithm) (info : SubjectPublicKeyInfo) → AreReturnedOnce (key_rules algorithm info)
key_one (RsaPkcs1v15 hash) info = (λ a b p q. p.1 ∙ sym q.1, tt)
key_one (Ecdsa hash) info = (λ a b p q. p.1 ∙ sym q.1, (λ a b p q. p.1 ∙ sym q.1, (λ a b p q. p.1 ∙ sym q.1, (unpaired_once info hash, tt))))
key_one Ed25519 info = (λ a b p q. p.1 ∙ sym q.1, (λ a b p q. p.1 ∙ sym q.1, (λ a b p q. p.1 ∙ sym q.1, (λ a b p q. p.3 ∙ sym q.3, tt))))

pub verify_one : (judge : Judge) (algorithm : SignatureAlgorithm) (info : SubjectPublicKeyInfo) (msg sig : List ℕ)
    → AreReturnedOnce (verify_rules judge algorithm info msg sig)
verify_one judge algorithm info msg sig =
    returned_together (key_rules algorithm info) (Unwritable info ∷ Malformed judge algorithm info msg sig ∷ Rejected judge algorithm info msg sig ∷ [])
    (key_one algorithm info) (unwritable_once info, (λ a b p q. p.1 ∙ sym q.1, (λ a b p q. p.1 ∙ sym q.1, tt)))

-- ---- the whole

accept_is_not_malformed : verdicts.Accept ≡ verdicts.Malformed → ⊥
accept_is_not_malformed e = cc

accept_is_not_reject : verdicts.Accept ≡ verdicts.Reject → ⊥
accept_is_not_reject e = cc

pub accepted_is_met : (judge : Judge) (algorithm : SignatureAlgorithm) (info : SubjectPublicKeyInfo) (msg sig : List ℕ) (e : SignatureError)
    → Accepts judge algorithm info msg sig → IsFirstBroken (verify_rules judge algorithm info msg sig) e → ⊥
accepted_is_met judge algorithm info msg sig e accepts broken =
    later (left_broken (key_rules algorithm info) _ e (key_met algorithm info accepts.alg accepts.bytes accepts.fits) broken)
  where
    later : IsFirstBroken (Unwritable info ∷ Malformed judge algorithm info msg sig ∷ Rejected judge algorithm info msg sig ∷ []) e → ⊥
    later (inl broken) = writable algorithm info accepts.alg accepts.bytes accepts.fits e broken
    later (inr (met, inl malformed)) = accept_is_not_malformed (one_verdict judge algorithm info msg sig verdicts.Accept verdicts.Malformed accepts malformed.0)
    later (inr (met, inr (formed, inl rejected))) =
        accept_is_not_reject (one_verdict judge algorithm info msg sig verdicts.Accept verdicts.Reject accepts rejected.0)
    later (inr (met, inr (formed, inr none))) = none.1

pub malformed_is_broken : (judge : Judge) (algorithm : SignatureAlgorithm) (info : SubjectPublicKeyInfo) (msg sig : List ℕ)
    → IsJudged judge algorithm info msg sig verdicts.Malformed → IsFirstBroken (verify_rules judge algorithm info msg sig) (malformed algorithm)
malformed_is_broken judge algorithm info msg sig judged =
    broken_behind (key_rules algorithm info) _ (malformed algorithm) (key_met algorithm info judged.alg judged.bytes judged.fits)
    (inr (writable algorithm info judged.alg judged.bytes judged.fits, inl (judged, refl)))

pub early : (judge : Judge) (algorithm : SignatureAlgorithm) (info : SubjectPublicKeyInfo) (msg sig : List ℕ) (e : SignatureError)
    → RefusesSignatureBy (key_rules algorithm info ++ Unwritable info ∷ []) e → RefusesSignatureBy (verify_rules judge algorithm info msg sig) e
early judge algorithm info msg sig e (inl broken) =
    inl (early_in (key_rules algorithm info) (Unwritable info) (Malformed judge algorithm info msg sig ∷ Rejected judge algorithm info msg sig ∷ []) e broken)
early judge algorithm info msg sig e (inr memory) = inr memory

-- ---- keys, rule by rule

pub deep_is_not_memory : der.TooDeep ≢ der.Memory
deep_is_not_memory e = cc

pub long_is_not_memory : der.TooLong ≢ der.Memory
long_is_not_memory e = cc

-- why an RSA key isn't written, as an error of a signature
rsa_unwritten : (info : SubjectPublicKeyInfo) (k : RsaPublicKey) → info.subject_public_key ≡ keys.Rsa k → (x : DerError) (source : KeyError)
    → source ≡ unwritten elements.RsaPublicKey x → RefusesInner (rsa_public_key k ∷ []) x
    → RefusesSignatureBy (NotRsa info ∷ Unwritable info ∷ []) (key_refusal source)
rsa_unwritten info k is (der.Malformed m) source e refused = absurd refused
rsa_unwritten info k is der.Shape source e refused = absurd refused
rsa_unwritten info k is der.TooDeep source e refused =
    inl (inr (
      λ other broken. broken.0 (ap kind_of_key is),
      inl (record {
        key = k;
        is = is;
        source = der.TooDeep;
        cause = alone
            (rsa_public_key k) der.TooDeep deep_is_not_memory refused;
        error = ap key_refusal e;
      }),
    ))
rsa_unwritten info k is der.TooLong source e refused =
    inl (inr (
      λ other broken. broken.0 (ap kind_of_key is),
      inl (record {
        key = k;
        is = is;
        source = der.TooLong;
        cause = alone
            (rsa_public_key k) der.TooLong long_is_not_memory refused;
        error = ap key_refusal e;
      }),
    ))
rsa_unwritten info k is der.Memory source e refused = inr (ap key_refusal e)

rsa_refused_of : (info : SubjectPublicKeyInfo) (key : SubjectKey) (source : KeyError) → info.subject_public_key ≡ key → kind_of_key key ≡ kinds.Rsa
    → RefusesPkcs1 key source → RefusesSignatureBy (NotRsa info ∷ Unwritable info ∷ []) (key_refusal source)
rsa_refused_of info (keys.Rsa k) source is kind refused = rsa_unwritten info k is refused.0 source refused.1 refused.2
rsa_refused_of info (keys.Ec bits) source is kind refused = absurd cc
rsa_refused_of info (keys.Ed bits) source is kind refused = absurd cc
rsa_refused_of info (keys.Mldsa bits) source is kind refused = absurd cc

pub rsa_refused : (info : SubjectPublicKeyInfo) (source : KeyError) → kind_of_key info.subject_public_key ≡ kinds.Rsa
    → RefusesPkcs1 info.subject_public_key source → RefusesSignatureBy (NotRsa info ∷ Unwritable info ∷ []) (key_refusal source)
rsa_refused info source kind refused = rsa_refused_of info info.subject_public_key source refl kind refused

-- an Ed25519 key has 32 octets or another size
pub ed_sized : {X : Type 0} (now : X → List ℕ) (info : SubjectPublicKeyInfo) (bits : BitString) → info.subject_public_key ≡ keys.Ed bits
    → IsOfEd info ed.Ed25519
    → (r : Result X SignatureError)
    → MatchResult r (λ bytes. (now bytes ≡ bits.payload) × (length (now bytes) ≡ 32))
    (λ e. (length bits.payload ≢ 32) × (e ≡ errors.Ed contexts.KeySize))
    → MatchResult r (λ bytes. IsEd25519Key info (now bytes)) (IsFirstBroken (key_rules Ed25519 info))
ed_sized now info bits is of (Ok bytes) sized = record { bits = bits; is = is; of = of; payload = sized.0; size = sized.1 }
ed_sized now info bits is of (Err e) sized =
    inr (
      λ other broken. broken.0 (ap kind_of_key is),
      inr (λ other broken. not_x25519 (one_ed info ed.Ed25519 ed.X25519 of broken.0), inr (λ other broken. broken.0 of, inl (bits, is, sized.0, sized.1))),
    )

pub ed_unknown : (info : SubjectPublicKeyInfo) (bits : BitString) → info.subject_public_key ≡ keys.Ed bits
    → ((algorithm : EdAlgorithm) → IsOfEd info algorithm → ⊥)
    → IsFirstBroken (key_rules Ed25519 info) (errors.Key (key_errors.ED key_contexts.UnsupportedEd))
ed_unknown info bits is none = inr (λ other broken. broken.0 (ap kind_of_key is), inr (λ other broken. none ed.X25519 broken.0, inl (none ed.Ed25519, refl)))
