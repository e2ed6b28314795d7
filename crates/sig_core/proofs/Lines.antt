-- The digits of a digest parse unambiguously.
use Rattle.std.proofs.Common.{◌≡◌, ℕ, ◌<◌, List, ◌∷◌, ◌++◌, length, take, drop, sym, ◌∙◌, ap, subst, arith, length-append, ap₂, Ok, Err, Some, None}
use Rattle.std.specs.Prelude.{Option, Result, MatchResult, OnOk}
use Rattle.std.specs.Result.{result_ok}
use Rattle.std.proofs.lemmas.List.{take-append-drop}
use Rattle.std.proofs.Math.Seq.{take-append_seam, drop-append_seam}
use Rattle.hex.specs.Hex.{encode_lower, lower_digits, decode_of, decode_sized}
use Rattle.hex.specs.declared.error.FromHexError.{FromHexError}
use Rattle.hex.proofs.HexLemmas.{length-encode_with, decode_of-encode_lower, decode_sized-encode_lower}
use Rattle.hex.proofs.HexLemmas.{decode_of-same, decode_of-ok, decode_sized-ok, decode_sized-twice}
use Rattle.sig_core.specs.VerdictTable.{IsDigest}

-- a digest has 64 digits
pub length-digits : (digest : List ℕ) → IsDigest digest → length (encode_lower digest) ≡ 64
length-digits digest h = let e = length-encode_with lower_digits digest in omega (arith, e, h.0)

-- digits encode one digest
pub digits_same : (a b : List ℕ) → IsDigest a → IsDigest b → encode_lower a ≡ encode_lower b → a ≡ b
digits_same a b ha hb e =
    decode_of-same (encode_lower a) a b (decode_of-encode_lower a ha.1) (ap decode_of e ∙ decode_of-encode_lower b hb.1)

-- the digits at the beginning of a text
pub take-digits : (digest rest text : List ℕ) → IsDigest digest → text ≡ encode_lower digest ++ rest
    → take 64 text ≡ encode_lower digest
take-digits digest rest text h e =
    ap (λ n. take n text) (sym (length-digits digest h)) ∙ ap (take (length (encode_lower digest))) e
    ∙ take-append_seam (encode_lower digest) rest

-- what follows them
pub drop-digits : (digest rest text : List ℕ) → IsDigest digest → text ≡ encode_lower digest ++ rest
    → drop 64 text ≡ rest
drop-digits digest rest text h e =
    ap (λ n. drop n text) (sym (length-digits digest h)) ∙ ap (drop (length (encode_lower digest))) e
    ∙ drop-append_seam (encode_lower digest) rest

-- decoding the digits of a digest gives the digest
pub decoded : (digits out : List ℕ) (r : Result (Unit {0}) FromHexError) (digest : List ℕ) → IsDigest digest
    → digits ≡ encode_lower digest
    → MatchResult (decode_sized digits 32) (λ bytes. (r ≡ Ok tt) × (out ≡ bytes)) (λ e. r ≡ Err e)
    → (r ≡ Ok tt) × (out ≡ digest)
decoded digits out r digest h e m =
    let P : Result (List ℕ) FromHexError → Type 0 = λ d. MatchResult d (λ bytes. (r ≡ Ok tt) × (out ≡ bytes)) (λ e. r ≡ Err e) in
    subst P (ap (λ t. decode_sized t 32) e ∙ decode_sized-encode_lower digest 32 h.0 h.1) m

-- digits, an octet and the rest are longer than the digits
pub length-digits-end : (digest after text : List ℕ) (end : ℕ) → IsDigest digest → text ≡ encode_lower digest ++ end ∷ after
    → 64 < length text
length-digits-end digest after text end h e =
    let n = length-digits digest h in
    let l = length-append (encode_lower digest) (end ∷ after) in
    let t = ap length e in
    omega (arith, n, l, t)

-- what was decoded, if decoding succeeded
pub decoded_back : (digits out : List ℕ) (o : Option (Unit {0})) (r : Result (Unit {0}) FromHexError) (x : Unit {0})
    → o ≡ Some x → o ≡ result_ok r
    → MatchResult (decode_sized digits 32) (λ bytes. (r ≡ Ok tt) × (out ≡ bytes)) (λ e. r ≡ Err e)
    → decode_sized digits 32 ≡ Ok out
decoded_back digits out o r x some ok m = at_result (decode_sized digits 32) m
  where
    at_result : (d : Result (List ℕ) FromHexError)
        → MatchResult d (λ bytes. (r ≡ Ok tt) × (out ≡ bytes)) (λ e. r ≡ Err e) → d ≡ Ok out
    at_result (Ok bytes) m = ap Ok (sym m.1)
    at_result (Err e) m = cc

-- 32 octets were decoded
pub IsDigest-decoded : (digits out : List ℕ) → decode_sized digits 32 ≡ Ok out → IsDigest out
IsDigest-decoded digits out e =
    let n = decode_sized-ok digits 32 out e in
    let same : decode_of digits ≡ Ok out = sym (decode_sized-twice digits 32 n) ∙ e in
    let ok = decode_of-ok digits out same in
    (omega (arith, n, ok.2), ok.3)

-- a call that returned no value has failed
pub no_value : (o : Option (Unit {0})) (r : Result (Unit {0}) FromHexError) → o ≡ None → o ≡ result_ok r → r ≡ Ok tt → ⊥
no_value o r none value ok = cc

-- what holds if a call succeeded, for a call that returned a value
pub at_value : (o : Option (Unit {0})) (r : Result (Unit {0}) FromHexError) (x : Unit {0}) {P : Type 0}
    → o ≡ Some x → o ≡ result_ok r → OnOk r P → P
at_value o (Ok u) x some value p = p
at_value o (Err e) x some value p = cc

-- a text in the parts that were read
pub parts_joined : (text digits rest digest back : List ℕ) (next end : ℕ) → digits ≡ take 64 text → rest ≡ drop 64 text
    → rest ≡ next ∷ back → next ≡ end → digits ≡ encode_lower digest → text ≡ encode_lower digest ++ end ∷ back
parts_joined text digits rest digest back next end front tail split same spelled =
    sym (take-append-drop 64 text) ∙ ap₂ (λ x y. x ++ y) (sym front ∙ spelled) (sym tail ∙ split ∙ ap (λ n. n ∷ back) same)

-- the octet at an offset is unique
pub same_head : (rest back tail after : List ℕ) (next end : ℕ) → rest ≡ next ∷ back → rest ≡ tail → tail ≡ end ∷ after → next ≡ end
same_head rest back tail after next end e f g = cc
