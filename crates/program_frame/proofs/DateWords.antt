-- The octets of a day's word are those of the first second of that day.
use Rattle.std.proofs.Common.{◌≡◌, ◌↔◌, ℕ, ◌+◌, ◌/◌, ◌%◌, List, [], ◌∷◌, length, get_or, inl, inr, refl, ap, arith}
use Rattle.asn1_types.specs.Time.{generalized_contents}
use Rattle.asn1_types.specs.declared.generalized_time.GeneralizedTime.{GeneralizedTime}
use Rattle.program_frame.specs.DateWord.{IsDateWord}

no_digits : (n : ℕ) → 48 ≡ 48 + n / 10 → 48 ≡ 48 + n % 10 → n ≡ 0
no_digits n tens ones = omega arith

first_digit : (n : ℕ) → n ≡ 0 → 48 + n / 10 ≡ 48
first_digit n none = rw none refl

last_digit : (n : ℕ) → n ≡ 0 → 48 + n % 10 ≡ 48
last_digit n none = rw none refl

-- the octets of a day, without separators, and with the digits of midnight
abbrev spelled : List ℕ → List ℕ
spelled word =
    get_or word 0 0 ∷ get_or word 1 0 ∷ get_or word 2 0 ∷ get_or word 3 0 ∷ get_or word 5 0 ∷ get_or word 6 0 ∷ get_or word 8 0 ∷ get_or word 9 0
    ∷ 48 ∷ 48 ∷ 48 ∷ 48 ∷ 48 ∷ 48 ∷ 90 ∷ []

pub day_is : (word : List ℕ) (t : GeneralizedTime) → length word ≡ 10 → get_or word 4 0 ≡ 45 → get_or word 7 0 ≡ 45
    → (spelled word ≡ generalized_contents t) ↔ IsDateWord word t
day_is (a ∷ b ∷ c ∷ d ∷ e ∷ f ∷ g ∷ h ∷ i ∷ j ∷ []) t many first second = (
  λ same. inl (
    cc,
    record {
      hour = no_digits t.hour (cc) (cc);
      minute = no_digits t.minute (cc) (cc);
      second = no_digits t.second (cc) (cc);
    },
  ),
  λ is. elim is [
    | inl day ↦
        let h1 = first_digit t.hour day.1.hour in
        let h2 = last_digit t.hour day.1.hour in
        let m1 = first_digit t.minute day.1.minute in
        let m2 = last_digit t.minute day.1.minute in
        let s1 = first_digit t.second day.1.second in
        let s2 = last_digit t.second day.1.second in
        let word = day.0 in
        cc
    | inr moment ↦ absurd (let longer = ap length moment in omega arith)
  ],
)
day_is word t many first second = absurd (omega arith)
