-- A length that is read is encoded as it is written.
use Rattle.std.proofs.Common.{◌≡◌, ℕ, suc, ◌+◌, ◌-◌, ◌/◌, ◌%◌, ◌^◌, ◌<◌, ◌≤◌, Bool, true, false, cond, ltb, eqb, List, []}
use Rattle.std.proofs.Common.{◌∷◌, ◌++◌, length, take, drop, Result, Ok, Err, refl, sym, ap, ◌∙◌, arith, inl, inr, ◌⊎◌}
use Rattle.std.proofs.lemmas.Bool.{cases_lt, cases_Bool, ltb-true, ltb-false, lt-ltb, le-ltb, eqb-true}
use Rattle.std.proofs.lemmas.List.{take-append-drop, length-take-le, get_or_append_left, get_or_past}
use Rattle.der_core.specs.declared.fault.DerFault.{DerFault}
use Rattle.der_core.specs.declared.fault.DerFault.TheVariants.{NotShortest, Truncated}
use Rattle.der_core.specs.Encoding.{length_octets}
use Rattle.der_core.specs.Facts.Fronts.{done, ok_is}
use Rattle.der_core.specs.Head.{IsOctets, ◌>>=◌, number_from, long_length_at, length_at, BeginsWithLength}

-- which way a test went
pub chosen : {A : Type 0} (b : Bool) (x y z : A) → cond b x y ≡ z → ((b ≡ true) × (x ≡ z)) ⊎ ((b ≡ false) × (y ≡ z))
chosen true x y z e = inl (refl, e)
chosen false x y z e = inr (refl, e)

pub bind_ok : {A B : Type 0} (r : Result A DerFault) (f : A → Result B DerFault) (y : B) → (r >>= f) ≡ Ok y → (x : A) × (r ≡ Ok x) × (f x ≡ Ok y)
bind_ok (Ok x) f y e = (x, refl, e)
bind_ok (Err fault) f y e = absurd cc

pub guard_ok : {A : Type 0} (b : Bool) (fault : DerFault) (x : Result A DerFault) (y : A) → cond b (Err fault) x ≡ Ok y → (b ≡ false) × (x ≡ Ok y)
guard_ok true fault x y e = absurd cc
guard_ok false fault x y e = (refl, e)

-- so many digits, and a number that is at least the least one with so many
record Digits (count least : ℕ) (octets : List ℕ) (n : ℕ) (rest : List ℕ) : Type 0 where
  digits : List ℕ
  parts : octets ≡ digits ++ rest
  many : length digits ≡ count
  value : number_from 0 digits ≡ n
  enough : least ≤ n

long_taken : (count least : ℕ) (past : DerFault) (octets : List ℕ) (n : ℕ) (rest : List ℕ) → long_length_at count least past octets ≡ Ok (n, rest)
    → Digits count least octets n rest
unfolding long_length_at
long_taken count least past octets n rest e =
    let there = guard_ok (ltb (length octets) count) past
    (cond (ltb (number_from 0 (take count octets)) least) (Err NotShortest) (Ok (number_from 0 (take count octets), drop count octets))) (n, rest) e in
    let shortest = guard_ok (ltb (number_from 0 (take count octets)) least) NotShortest (Ok (number_from 0 (take count octets), drop count octets))
    (n, rest) there.1 in
    let both = ok_is (number_from 0 (take count octets), drop count octets) (n, rest) shortest.1 in
    let value : number_from 0 (take count octets) ≡ n = ap (λ (p : ℕ × List ℕ). p.0) both in
    let after : drop count octets ≡ rest = ap (λ (p : ℕ × List ℕ). p.1) both in
    record {
      digits = take count octets;
      parts = rw (← after) (sym (take-append-drop count octets));
      many = length-take-le count octets (ltb-false _ _ there.0);
      value = value;
      enough = rw (← value) (ltb-false _ _ shortest.0);
    }

-- digits that are the octets of their number
written_1 : (digits : List ℕ) (n : ℕ) → length digits ≡ 1 → IsOctets digits → number_from 0 digits ≡ n → 2 ^ 7 ≤ n
    → (129 ∷ digits ≡ length_octets n) × (n < 2 ^ 32)
unfolding length_octets
written_1 [] n len fits value enough = absurd (omega arith)
written_1 (a ∷ []) n len fits value enough =
    let fit : a < 2 ^ 8 = fits 0 in
    let same : n ≡ a = omega arith in
    let f7 : ltb n (2 ^ 7) ≡ false = le-ltb _ _ enough in
    let t8 : ltb n (2 ^ 8) ≡ true = lt-ltb _ _ (omega arith) in
    (rw (f7, t8) (cc), omega arith)
written_1 (a ∷ b ∷ more) n len fits value enough = absurd (omega arith)

written_2 : (digits : List ℕ) (n : ℕ) → length digits ≡ 2 → IsOctets digits → number_from 0 digits ≡ n → 2 ^ 8 ≤ n
    → (130 ∷ digits ≡ length_octets n) × (n < 2 ^ 32)
unfolding length_octets
written_2 [] n len fits value enough = absurd (omega arith)
written_2 (a ∷ []) n len fits value enough = absurd (omega arith)
written_2 (a ∷ b ∷ []) n len fits value enough =
    let fit0 : a < 2 ^ 8 = fits 0 in
    let fit1 : b < 2 ^ 8 = fits 1 in
    let f7 : ltb n (2 ^ 7) ≡ false = le-ltb _ _ (omega arith) in
    let f8 : ltb n (2 ^ 8) ≡ false = le-ltb _ _ enough in
    let t16 : ltb n (2 ^ 16) ≡ true = lt-ltb _ _ (omega arith) in
    let d0 : a ≡ n / 2 ^ 8 = omega arith in
    let d1 : b ≡ n % 2 ^ 8 = omega arith in
    (rw (f7, f8, t16) (cc), omega arith)
written_2 (a ∷ b ∷ c ∷ more) n len fits value enough = absurd (omega arith)

written_3 : (digits : List ℕ) (n : ℕ) → length digits ≡ 3 → IsOctets digits → number_from 0 digits ≡ n → 2 ^ 16 ≤ n
    → (131 ∷ digits ≡ length_octets n) × (n < 2 ^ 32)
unfolding length_octets
written_3 [] n len fits value enough = absurd (omega arith)
written_3 (a ∷ []) n len fits value enough = absurd (omega arith)
written_3 (a ∷ b ∷ []) n len fits value enough = absurd (omega arith)
written_3 (a ∷ b ∷ c ∷ []) n len fits value enough =
    let fit0 : a < 2 ^ 8 = fits 0 in
    let fit1 : b < 2 ^ 8 = fits 1 in
    let fit2 : c < 2 ^ 8 = fits 2 in
    let f7 : ltb n (2 ^ 7) ≡ false = le-ltb _ _ (omega arith) in
    let f8 : ltb n (2 ^ 8) ≡ false = le-ltb _ _ (omega arith) in
    let f16 : ltb n (2 ^ 16) ≡ false = le-ltb _ _ enough in
    let t24 : ltb n (2 ^ 24) ≡ true = lt-ltb _ _ (omega arith) in
    let d0 : a ≡ n / 2 ^ 16 = omega arith in
    let d1 : b ≡ n / 2 ^ 8 % 2 ^ 8 = omega arith in
    let d2 : c ≡ n % 2 ^ 8 = omega arith in
    (rw (f7, f8, f16, t24) (cc), omega arith)
written_3 (a ∷ b ∷ c ∷ d ∷ more) n len fits value enough = absurd (omega arith)

written_4 : (digits : List ℕ) (n : ℕ) → length digits ≡ 4 → IsOctets digits → number_from 0 digits ≡ n → 2 ^ 24 ≤ n
    → (132 ∷ digits ≡ length_octets n) × (n < 2 ^ 32)
unfolding length_octets
written_4 [] n len fits value enough = absurd (omega arith)
written_4 (a ∷ []) n len fits value enough = absurd (omega arith)
written_4 (a ∷ b ∷ []) n len fits value enough = absurd (omega arith)
written_4 (a ∷ b ∷ c ∷ []) n len fits value enough = absurd (omega arith)
written_4 (a ∷ b ∷ c ∷ d ∷ []) n len fits value enough =
    let fit0 : a < 2 ^ 8 = fits 0 in
    let fit1 : b < 2 ^ 8 = fits 1 in
    let fit2 : c < 2 ^ 8 = fits 2 in
    let fit3 : d < 2 ^ 8 = fits 3 in
    let f7 : ltb n (2 ^ 7) ≡ false = le-ltb _ _ (omega arith) in
    let f8 : ltb n (2 ^ 8) ≡ false = le-ltb _ _ (omega arith) in
    let f16 : ltb n (2 ^ 16) ≡ false = le-ltb _ _ (omega arith) in
    let f24 : ltb n (2 ^ 24) ≡ false = le-ltb _ _ enough in
    let d0 : a ≡ n / 2 ^ 24 = omega arith in
    let d1 : b ≡ n / 2 ^ 16 % 2 ^ 8 = omega arith in
    let d2 : c ≡ n / 2 ^ 8 % 2 ^ 8 = omega arith in
    let d3 : d ≡ n % 2 ^ 8 = omega arith in
    (rw (f7, f8, f16, f24) (cc), omega arith)
written_4 (a ∷ b ∷ c ∷ d ∷ e ∷ more) n len fits value enough = absurd (omega arith)

-- a length that was read from the beginning of octets
pub record HasLength (octets : List ℕ) (n : ℕ) (rest : List ℕ) : Type 0 where
  pub parts : octets ≡ length_octets n ++ rest
  pub short : n < 2 ^ 32

pub IsOctets-front : (a b : List ℕ) → IsOctets (a ++ b) → IsOctets a
IsOctets-front a b fits i =
    elim (cases_lt i (length a)) [
      | inl lt ↦ rw (get_or_append_left a b 0 i lt) at (fits i)
      | inr ge ↦ rw (get_or_past a i 0 ge) (omega arith)
    ]

long_case : (count least first mark : ℕ) (past : DerFault) (octets : List ℕ) (n : ℕ) (rest : List ℕ) →
    ((digits : List ℕ) (m : ℕ) → length digits ≡ count → IsOctets digits → number_from 0 digits ≡ m → least ≤ m
    → (mark ∷ digits ≡ length_octets m) × (m < 2 ^ 32)) →
    first ≡ mark → IsOctets octets → long_length_at count least past octets ≡ Ok (n, rest) → HasLength (first ∷ octets) n rest
long_case count least first mark past octets n rest written same fits e =
    let d = long_taken count least past octets n rest e in
    let w = written d.digits n d.many (IsOctets-front d.digits rest (rw d.parts at fits)) d.value d.enough in
    record {
      parts = ap (λ (o : List ℕ). first ∷ o) d.parts ∙ ap (λ (m : ℕ). m ∷ (d.digits ++ rest)) same ∙ ap (λ (o : List ℕ). o ++ rest) w.0;
      short = w.1;
    }

short_taken : (first n : ℕ) (octets rest : List ℕ) → first < 2 ^ 7 → done {A = ℕ × List ℕ} (first, octets) ≡ Ok (n, rest) → HasLength (first ∷ octets) n rest
unfolding length_octets
short_taken first n octets rest lt e =
    let both = ok_is (first, octets) (n, rest) e in
    let value : first ≡ n = ap (λ (p : ℕ × List ℕ). p.0) both in
    let after : octets ≡ rest = ap (λ (p : ℕ × List ℕ). p.1) both in
    let t : ltb n (2 ^ 7) ≡ true = lt-ltb _ _ (omega arith) in
    record { parts = rw t cc; short = omega arith }

pub length_taken : (past : DerFault) (octets : List ℕ) (n : ℕ) (rest : List ℕ) → IsOctets octets → length_at past octets ≡ Ok (n, rest)
    → HasLength octets n rest
unfolding length_at
length_taken past [] n rest fits e = absurd cc
length_taken past (first ∷ octets) n rest fits e =
    let after : IsOctets octets = λ i. fits (suc i) in
    elim (cases_Bool (ltb first (2 ^ 7))) [
      | inl t ↦ short_taken first n octets rest (ltb-true _ _ t) (rw t at e)
      | inr f7 ↦ let e7 = rw f7 at e in
          elim (cases_Bool (eqb first 128)) [
            | inl t ↦ let none = rw t at e7 in absurd cc
            | inr f ↦ let e0 = rw f at e7 in
                elim (cases_Bool (eqb first 129)) [
                  | inl t ↦ long_case 1 (2 ^ 7) first 129 past octets n rest written_1 (eqb-true _ _ t) after (rw t at e0)
                  | inr f ↦ let e1 = rw f at e0 in
                      elim (cases_Bool (eqb first 130)) [
                        | inl t ↦ long_case 2 (2 ^ 8) first 130 past octets n rest written_2 (eqb-true _ _ t) after (rw t at e1)
                        | inr f ↦ let e2 = rw f at e1 in
                            elim (cases_Bool (eqb first 131)) [
                              | inl t ↦ long_case 3 (2 ^ 16) first 131 past octets n rest written_3 (eqb-true _ _ t) after (rw t at e2)
                              | inr f ↦ let e3 = rw f at e2 in
                                  elim (cases_Bool (eqb first 132)) [
                                    | inl t ↦ long_case 4 (2 ^ 24) first 132 past octets n rest written_4 (eqb-true _ _ t) after (rw t at e3)
                                    | inr f ↦ let none = rw f at e3 in absurd cc
                                  ]
                            ]
                      ]
                ]
          ]
    ]

-- ---- a length of the long form

-- its first octet says how many encode it
pub record IsLongForm (first : ℕ) (rest : List ℕ) (n : ℕ) (after : List ℕ) : Type 0 where
  pub few : first - 128 ≤ 4
  pub there : first - 128 ≤ length rest
  pub value : number_from 0 (take (first - 128) rest) ≡ n
  pub left : drop (first - 128) rest ≡ after

long_form : (count least first : ℕ) (past : DerFault) (rest : List ℕ) (n : ℕ) (after : List ℕ) → count ≤ 4 → first ≡ 128 + count
    → long_length_at count least past rest ≡ Ok (n, after) → IsLongForm first rest n after
unfolding long_length_at
long_form count least first past rest n after few same e =
    let there = guard_ok (ltb (length rest) count) past
    (cond (ltb (number_from 0 (take count rest)) least) (Err NotShortest) (Ok (number_from 0 (take count rest), drop count rest))) (n, after) e in
    let shortest = guard_ok (ltb (number_from 0 (take count rest)) least) NotShortest (Ok (number_from 0 (take count rest), drop count rest))
    (n, after) there.1 in
    let both = ok_is (number_from 0 (take count rest), drop count rest) (n, after) shortest.1 in
    let many : first - 128 ≡ count = omega arith in
    record {
      few = omega arith;
      there = rw many (ltb-false _ _ there.0);
      value = rw many (ap (λ (p : ℕ × List ℕ). p.0) both);
      left = rw many (ap (λ (p : ℕ × List ℕ). p.1) both);
    }

pub long_there : (past : DerFault) (first : ℕ) (rest : List ℕ) (n : ℕ) (after : List ℕ) → 128 ≤ first → length_at past (first ∷ rest) ≡ Ok (n, after)
    → IsLongForm first rest n after
unfolding length_at
long_there past first rest n after long e =
    let f7 : ltb first (2 ^ 7) ≡ false = le-ltb _ _ long in
    let e7 = rw f7 at e in
    elim (cases_Bool (eqb first 128)) [
      | inl t ↦ let none = rw t at e7 in absurd cc
      | inr f ↦ let e0 = rw f at e7 in
          elim (cases_Bool (eqb first 129)) [
            | inl t ↦ long_form 1 (2 ^ 7) first past rest n after (omega arith) (eqb-true _ _ t) (rw t at e0)
            | inr f ↦ let e1 = rw f at e0 in
                elim (cases_Bool (eqb first 130)) [
                  | inl t ↦ long_form 2 (2 ^ 8) first past rest n after (omega arith) (eqb-true _ _ t) (rw t at e1)
                  | inr f ↦ let e2 = rw f at e1 in
                      elim (cases_Bool (eqb first 131)) [
                        | inl t ↦ long_form 3 (2 ^ 16) first past rest n after (omega arith) (eqb-true _ _ t) (rw t at e2)
                        | inr f ↦ let e3 = rw f at e2 in
                            elim (cases_Bool (eqb first 132)) [
                              | inl t ↦ long_form 4 (2 ^ 24) first past rest n after (omega arith) (eqb-true _ _ t) (rw t at e3)
                              | inr f ↦ let none = rw f at e3 in absurd cc
                            ]
                      ]
                ]
          ]
    ]

-- a length that is known, and what follows it in the long form
pub long_known : (octets : List ℕ) (first : ℕ) (rest : List ℕ) → octets ≡ first ∷ rest → 128 ≤ first → BeginsWithLength octets
    → IsLongForm first rest (number_from 0 (take (first - 128) rest)) (drop (first - 128) rest)
long_known octets first rest are long begins =
    let form = long_there Truncated first rest begins.0 begins.1 long (rw are at begins.2) in
    record { few = form.few; there = form.there; value = refl; left = refl }

pub long_read : (octets : List ℕ) (first : ℕ) (rest : List ℕ) → octets ≡ first ∷ rest → 128 ≤ first → BeginsWithLength octets
    → length_at Truncated octets ≡ Ok (number_from 0 (take (first - 128) rest), drop (first - 128) rest)
long_read octets first rest are long begins =
    let form = long_there Truncated first rest begins.0 begins.1 long (rw are at begins.2) in
    rw (form.value, form.left) begins.2
