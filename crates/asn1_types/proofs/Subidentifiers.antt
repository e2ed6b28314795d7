-- Octets that begin with a subidentifier, and octets that don't.
use Rattle.std.proofs.Common.{◌≡◌, ◌≢◌, ◌↔◌, ℕ, Bool, ◌+◌, ◌-◌, ◌*◌, ◌/◌, ◌%◌, ◌^◌, ◌<◌, ◌≤◌, cond, true, false, Option, Some, None, List, [], ◌∷◌}
use Rattle.std.proofs.Common.{◌++◌, map, refl, ltb, sym, take, drop, ap, ap₂, ◌∙◌, append_assoc, length, length-append, get_or, inl, inr, arith}
use Rattle.std.proofs.lemmas.Bool.{cases_lt, lt-ltb, le-ltb}
use Rattle.std.proofs.lemmas.List.{take_all}
use Rattle.std.proofs.lemmas.Int.Digits.{first_digits_of, length-digits_of_step}
use Rattle.std.specs.List.{AllByRecursion, flat_map}
use Rattle.std.specs.Int.Digits.{digits_of}
use Rattle.asn1_types.specs.Subidentifier.{IsSubidentifier, leading_octets, subidentifier, BeginsWithSubidentifier, BeginsWithNoSubidentifier}
use Rattle.asn1_types.specs.Facts.SubidentifierReading.{read_after, read_leading, read_subidentifier, leading_step, subidentifier_once, subidentifier_some}

-- octets are subidentifiers, one after another
pub record AreSubidentifiers (octets : List ℕ) : Type 0 where
  pub numbers : List ℕ
  pub bounded : AllByRecursion IsSubidentifier numbers
  pub spelled : octets ≡ flat_map subidentifier numbers

-- one more octet with bit 8 set
pub one_more : (octets rest after : List ℕ) (number octet : ℕ) → octets ≡ leading_octets number ++ rest
    → rest ≡ octet ∷ after → 128 ≤ octet → octet < 256 → 0 < number * 128 + octet % 128
    → octets ≡ leading_octets (number * 128 + octet % 128) ++ after
one_more octets rest after number octet read next high byte positive =
    let front : (number * 128 + octet % 128) / 128 ≡ number = omega arith in
    let last : 128 + (number * 128 + octet % 128) % 128 ≡ octet = omega arith in
    let step = leading_step (number * 128 + octet % 128) positive in
    read ∙ ap (λ r. leading_octets number ++ r) next
    ∙ sym (append_assoc (leading_octets number) (octet ∷ []) after)
    ∙ ap (λ o. o ++ after) (ap₂ (λ n o. leading_octets n ++ (o ∷ [])) (sym front) (sym last) ∙ sym step)

-- an octet with bit 8 clear ends the subidentifier
pub last_one : (octets rest after : List ℕ) (number octet : ℕ) → octets ≡ leading_octets number ++ rest
    → rest ≡ octet ∷ after → octet < 128
    → octets ≡ subidentifier (number * 128 + octet % 128) ++ after
unfolding subidentifier
last_one octets rest after number octet read next low =
    let front : (number * 128 + octet % 128) / 128 ≡ number = omega arith in
    let last : (number * 128 + octet % 128) % 128 ≡ octet = omega arith in
    read ∙ ap (λ r. leading_octets number ++ r) next
    ∙ sym (append_assoc (leading_octets number) (octet ∷ []) after)
    ∙ ap (λ o. o ++ after) (ap₂ (λ n o. leading_octets n ++ (o ∷ [])) (sym front) (sym last))

-- ---- subidentifiers of few octets

pub of_one : (octets : List ℕ) → 1 ≤ length octets → get_or octets 0 0 < 128 → BeginsWithSubidentifier octets (take (length octets - 1) (drop 1 octets))
of_one [] some low = absurd (omega arith)
of_one (last ∷ after) some low =
    record {
      number = 0 * 128 + last % 128;
      bounded = omega arith;
      spelled = rw (take_all (length (last ∷ after) - 1) after (omega arith)) (last_one (last ∷ after) (last ∷ after) after 0 last refl refl low);
    }

pub of_two : (octets : List ℕ) → 2 ≤ length octets → 128 < get_or octets 0 0 → get_or octets 0 0 < 256 → get_or octets 1 0 < 128
    → BeginsWithSubidentifier octets (take (length octets - 2) (drop 2 octets))
of_two [] some high byte low = absurd (omega arith)
of_two (first ∷ []) some high byte low = absurd (omega arith)
of_two (first ∷ last ∷ after) some high byte low =
    let octets : List ℕ = first ∷ last ∷ after in
    let read = one_more octets octets (last ∷ after) 0 first refl refl (omega arith) byte (omega arith) in
    record {
      number = (0 * 128 + first % 128) * 128 + last % 128;
      bounded = omega arith;
      spelled = rw (take_all (length octets - 2) after (omega arith)) (last_one octets (last ∷ after) after (0 * 128 + first % 128) last read refl low);
    }

pub of_three : (octets : List ℕ) → 3 ≤ length octets → 128 < get_or octets 0 0 → get_or octets 0 0 < 256 → 128 ≤ get_or octets 1 0 → get_or octets 1 0 < 256
    → get_or octets 2 0 < 128
    → BeginsWithSubidentifier octets (take (length octets - 3) (drop 3 octets))
of_three [] some high byte more octet low = absurd (omega arith)
of_three (first ∷ []) some high byte more octet low = absurd (omega arith)
of_three (first ∷ next ∷ []) some high byte more octet low = absurd (omega arith)
of_three (first ∷ next ∷ last ∷ after) some high byte more octet low =
    let octets : List ℕ = first ∷ next ∷ last ∷ after in
    let digit : ℕ = 0 * 128 + first % 128 in
    let read = one_more octets octets (next ∷ last ∷ after) 0 first refl refl (omega arith) byte (omega arith) in
    let again = one_more octets (next ∷ last ∷ after) (last ∷ after) digit next read refl more octet (omega arith) in
    record {
      number = (digit * 128 + next % 128) * 128 + last % 128;
      bounded = omega arith;
      spelled = rw (take_all (length octets - 3) after (omega arith)) (last_one octets (last ∷ after) after (digit * 128 + next % 128) last again refl low);
    }

abbrev found : ℕ → List ℕ → Option (ℕ × List ℕ)
found number rest = Some (number, rest)

abbrev at_octet : ℕ → ℕ → List ℕ → Bool → Option (ℕ × List ℕ)
at_octet number octet rest t =
    cond t (Some (number * 128 + octet, rest)) (read_after (number * 128 + (octet - 128)) rest)

-- the number is at least the one that was read so far
read_holds : (number : ℕ) (octets : List ℕ) (n : ℕ) (after : List ℕ) → read_after number octets ≡ Some (n, after) → number * 128 ≤ n
read_holds number [] n after e = cc
read_holds number (octet ∷ rest) n after e =
    elim (cases_lt octet 128) [
      | inl low ↦
          let is_low : ltb octet 128 ≡ true = lt-ltb _ _ low in
          let same = first_of_found (number * 128 + octet) n rest after (sym (ap (at_octet number octet rest) is_low) ∙ e) in
          omega arith
      | inr high ↦
          let is_high : ltb octet 128 ≡ false = le-ltb _ _ high in
          let more = read_holds (number * 128 + (octet - 128)) rest n after (sym (ap (at_octet number octet rest) is_high) ∙ e) in
          omega arith
    ]
  where
    first_of_found : (m n : ℕ) (x y : List ℕ) → found m x ≡ found n y → m ≡ n
    first_of_found m n x y e = ap (λ (r : Option (ℕ × List ℕ)). elim r [ None ↦ m | Some p ↦ p.0 ]) e

-- what a reader returns for octets that begin with a subidentifier
begun : (octets rest after : List ℕ) (number n : ℕ) → octets ≡ leading_octets number ++ rest
    → octets ≡ subidentifier n ++ after → read_after number rest ≡ Some (n, after)
begun octets rest after number n read spelled =
    sym (read_leading number rest) ∙ ap (read_after 0) (sym read ∙ spelled) ∙ read_subidentifier n after

-- the number has no room for another octet
pub none_too_great : (octets rest : List ℕ) (number : ℕ) → octets ≡ leading_octets number ++ rest
    → 2 ^ 121 ≤ number → BeginsWithNoSubidentifier octets
none_too_great octets rest number read great n after bounded spelled =
    let holds = read_holds number rest n after (begun octets rest after number n read spelled) in
    absurd (omega arith)

-- the octets end before the subidentifier does
pub none_cut_short : (octets rest : List ℕ) (number : ℕ) → octets ≡ leading_octets number ++ rest
    → rest ≡ [] → BeginsWithNoSubidentifier octets
none_cut_short octets rest number read end n after bounded spelled =
    let found = sym (ap (read_after number) end) ∙ begun octets rest after number n read spelled in
    cc

first_above : (digits after : List ℕ) → 0 < length digits → get_or (map (λ digit. 128 + digit) digits ++ after) 0 0 ≡ 128 + get_or digits 0 0
first_above [] after some = absurd (omega arith)
first_above (digit ∷ digits) after some = refl

-- no subidentifier begins with octet 80
pub none_padded : (octets rest after : List ℕ) (number octet : ℕ) → octets ≡ leading_octets number ++ rest
    → rest ≡ octet ∷ after → number ≡ 0 → octet ≡ 128 → BeginsWithNoSubidentifier octets
unfolding subidentifier
none_padded octets rest after number octet read next none padding n behind bounded spelled =
    let octets_are : octets ≡ 128 ∷ after = read ∙ ap₂ (λ m r. leading_octets m ++ r) none next ∙ ap (λ o. o ∷ after) padding in
    let first : get_or (subidentifier n ++ behind) 0 0 ≡ 128 = ap (λ o. get_or o 0 0) (sym spelled ∙ octets_are) in
    let parts = append_assoc (leading_octets (n / 128)) (n % 128 ∷ []) behind in
    elim (cases_lt 0 (n / 128)) [
      | inl more ↦
          let digit = first_digits_of 128 (n / 128) (omega arith) more in
          let some = length-digits_of_step 128 (n / 128) (omega arith) more in
          let whole : get_or (subidentifier n ++ behind) 0 0 ≡ 128 + get_or (digits_of 128 (n / 128)) 0 0 =
          ap (λ o. get_or o 0 0) parts ∙ first_above (digits_of 128 (n / 128)) (n % 128 ∷ behind) (omega arith) in
          omega arith
      | inr small ↦
          let leads_none : n / 128 ≡ 0 = omega arith in
          let whole : get_or (subidentifier n ++ behind) 0 0 ≡ n % 128 =
          ap (λ o. get_or o 0 0) parts ∙ ap (λ m. get_or (leading_octets m ++ (n % 128 ∷ behind)) 0 0) leads_none in
          absurd (omega arith)
    ]

-- a subidentifier has octets, so what follows it is shorter
pub after_shorter : (octets after : List ℕ) (n : ℕ) → octets ≡ subidentifier n ++ after → length after < length octets
unfolding subidentifier
after_shorter octets after n e =
    let whole = ap length (e ∙ append_assoc (leading_octets (n / 128)) (n % 128 ∷ []) after) in
    let parts = length-append (leading_octets (n / 128)) (n % 128 ∷ after) in
    omega arith

-- octets that begin with a subidentifier are subidentifiers if the octets after it are
pub are_where_rest : (octets after : List ℕ) (n : ℕ) → IsSubidentifier n → octets ≡ subidentifier n ++ after
    → AreSubidentifiers octets ↔ AreSubidentifiers after
are_where_rest octets after n bounded e = (
  λ are. rest_are are.numbers are.bounded are.spelled,
  λ are. record {
    numbers = n ∷ are.numbers;
    bounded = (bounded, are.bounded);
    spelled = e ∙ ap (λ r. subidentifier n ++ r) are.spelled;
  },
)
  where
    rest_are : (numbers : List ℕ) → AllByRecursion IsSubidentifier numbers → octets ≡ flat_map subidentifier numbers → AreSubidentifiers after
    rest_are [] all spelled = absurd (subidentifier_some n after (sym e ∙ spelled))
    rest_are (m ∷ ms) all spelled = record {
      numbers = ms;
      bounded = all.1;
      spelled = (subidentifier_once n m after (flat_map subidentifier ms) (sym e ∙ spelled)).1;
    }

-- octets that don't begin with a subidentifier aren't subidentifiers, unless there are none
pub are_none : (octets : List ℕ) → BeginsWithNoSubidentifier octets → octets ≢ [] → AreSubidentifiers octets → ⊥
are_none octets begins some are = by_numbers are.numbers are.bounded are.spelled
  where
    by_numbers : (numbers : List ℕ) → AllByRecursion IsSubidentifier numbers → octets ≡ flat_map subidentifier numbers → ⊥
    by_numbers [] all spelled = some spelled
    by_numbers (m ∷ ms) all spelled = begins m (flat_map subidentifier ms) all.0 spelled

pub are_empty : (octets : List ℕ) → octets ≡ [] → AreSubidentifiers octets
are_empty octets e = record { numbers = []; bounded = tt; spelled = e }
