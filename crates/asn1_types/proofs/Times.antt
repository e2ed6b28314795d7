-- Times with the same fields are the same, and pairs of digits are read as one time.
use Rattle.std.proofs.Common.{◌≡◌, ℕ, ◌+◌, ◌*◌, ◌/◌, ◌%◌, List, [], ◌∷◌, length, get_or, slice_index, Option}
use Rattle.std.proofs.Common.{None, Some, IsSome, IfSome, MatchOption, ◌≢◌, ◌↔◌, arith, sym, ap, subst, ◌∙◌}
use Rattle.asn1_types.specs.Calendar.{IsUtcYear}
use Rattle.asn1_types.specs.declared.generalized_time.GeneralizedTime.{GeneralizedTime}
use Rattle.asn1_types.specs.declared.utc_time.UTCTime.{UTCTime}
use Rattle.asn1_types.specs.Facts.Times.{AreMoment, same_generalized, same_utc, same_number, day_below}
use Rattle.asn1_types.specs.Time.{IsPair, generalized_contents, generalized_fields, utc_contents, utc_fields}

-- ---- fields

-- The time made of the fields of a time is that time.
pub generalized_made : (made : Option GeneralizedTime) (t : GeneralizedTime) (xs : List ℕ) → (IsSome made ↔ AreMoment xs)
    → IfSome made (λ v. generalized_fields v ≡ xs) → generalized_fields t ≡ xs → made ≡ Some t
generalized_made None t xs exists given e =
    let made = exists.1 (subst AreMoment e t.exists) in absurd (cc)
generalized_made (Some v) t xs exists given e = ap Some (same_generalized v t (given ∙ sym e))

-- The same for years from 1950 to 2049.
pub utc_made : (made : Option UTCTime) (t : UTCTime) (xs : List ℕ) → (IsSome made ↔ (AreMoment xs × IsUtcYear (get_or xs 0 0)))
    → IfSome made (λ v. utc_fields v ≡ xs) → utc_fields t ≡ xs → made ≡ Some t
utc_made None t xs exists given e =
    let made = exists.1 (subst (λ ys. AreMoment ys × IsUtcYear (get_or ys 0 0)) e (t.time.exists, t.of_years)) in absurd (cc)
utc_made (Some v) t xs exists given e = ap Some (same_utc v t (given ∙ sym e))

-- ---- digits

-- Seven pairs of digits and `Z` are the contents of the time with their numbers.
pub generalized_spelled : (bs : List ℕ) (v : GeneralizedTime) (year century of_century month day hour minute second : ℕ) → year ≡ 100 * century + of_century
    → length bs ≡ 15 → slice_index bs 14 ≡ 90
    → IsPair bs 0 century → IsPair bs 2 of_century → IsPair bs 4 month → IsPair bs 6 day → IsPair bs 8 hour → IsPair bs 10 minute → IsPair bs 12 second
    → generalized_fields v ≡ year ∷ month ∷ day ∷ hour ∷ minute ∷ second ∷ [] → bs ≡ generalized_contents v
generalized_spelled (a ∷ b ∷ c ∷ d ∷ e ∷ f ∷ g ∷ h ∷ i ∷ j ∷ k ∷ l ∷ m ∷ n ∷ o ∷ []) v year century of_century month day hour minute second whole len z p0 p2 p4
    p6 p8 p10 p12 given =
    let years : v.year ≡ year = cc in
    let first : v.year / 100 ≡ century = omega (arith, p2.0) in
    let last : v.year % 100 ≡ of_century = omega (arith, p2.0) in
    cc
generalized_spelled bs v year century of_century month day hour minute second whole len z p0 p2 p4 p6 p8 p10 p12 given =
    absurd (omega arith)

-- The numbers of the digits of a time are its fields.
pub generalized_read : (bs : List ℕ) (t : GeneralizedTime) (year century of_century month day hour minute second : ℕ) → year ≡ 100 * century + of_century
    → IsPair bs 0 century → IsPair bs 2 of_century → IsPair bs 4 month → IsPair bs 6 day → IsPair bs 8 hour → IsPair bs 10 minute → IsPair bs 12 second
    → bs ≡ generalized_contents t → generalized_fields t ≡ year ∷ month ∷ day ∷ hour ∷ minute ∷ second ∷ []
generalized_read bs t year century of_century month day hour minute second whole p0 p2 p4 p6 p8 p10 p12 e =
    let x = t.exists in
    let d = day_below x in
    let e0 = same_number century (t.year / 100) p0.0 (omega arith) (rw e at p0.1) in
    let e2 = same_number of_century (t.year % 100) p2.0 (omega arith) (rw e at p2.1) in
    let e4 = same_number month t.month p4.0 (omega arith) (rw e at p4.1) in
    let e6 = same_number day t.day p6.0 d (rw e at p6.1) in
    let e8 = same_number hour t.hour p8.0 (omega arith) (rw e at p8.1) in
    let e10 = same_number minute t.minute p10.0 (omega arith) (rw e at p10.1) in
    let e12 = same_number second t.second p12.0 (omega arith) (rw e at p12.1) in
    let years : t.year ≡ year = omega arith in
    cc

-- A reader that reads the contents octets of all times, and only those, is exact.
pub read_or_not : {T : Type 0} (contents fields : T → List ℕ) (bs xs : List ℕ) (read : Option T) → ((t : T) → bs ≡ contents t → read ≡ Some t)
    → ((t : T) → fields t ≡ xs → bs ≡ contents t) → IfSome read (λ t. fields t ≡ xs) → MatchOption read ((t : T) → bs ≢ contents t) (λ t. bs ≡ contents t)
read_or_not contents fields bs xs None only spelled given = λ t e. let read = only t e in absurd (cc)
read_or_not contents fields bs xs (Some t) only spelled given = spelled t given

-- The same two for years from 1950 to 2049.
pub utc_spelled : (bs : List ℕ) (v : UTCTime) (year last month day hour minute second : ℕ) → year % 100 ≡ last → length bs ≡ 13 → slice_index bs 12 ≡ 90
    → IsPair bs 0 last → IsPair bs 2 month → IsPair bs 4 day → IsPair bs 6 hour → IsPair bs 8 minute → IsPair bs 10 second
    → utc_fields v ≡ year ∷ month ∷ day ∷ hour ∷ minute ∷ second ∷ [] → bs ≡ utc_contents v
utc_spelled (a ∷ b ∷ c ∷ d ∷ e ∷ f ∷ g ∷ h ∷ i ∷ j ∷ k ∷ l ∷ m ∷ []) v year last month day hour minute second same len z p0 p2 p4 p6 p8 p10 given =
    let years : v.time.year ≡ year = cc in
    let last_digits : v.time.year % 100 ≡ last = cc in
    cc
utc_spelled bs v year last month day hour minute second same len z p0 p2 p4 p6 p8 p10 given = absurd (omega arith)

pub utc_read : (bs : List ℕ) (t : UTCTime) (year last month day hour minute second : ℕ) → IsUtcYear year → year % 100 ≡ last
    → IsPair bs 0 last → IsPair bs 2 month → IsPair bs 4 day → IsPair bs 6 hour → IsPair bs 8 minute → IsPair bs 10 second
    → bs ≡ utc_contents t → utc_fields t ≡ year ∷ month ∷ day ∷ hour ∷ minute ∷ second ∷ []
utc_read bs t year last month day hour minute second within same p0 p2 p4 p6 p8 p10 e =
    let x = t.time.exists in
    let d = day_below x in
    let e0 = same_number last (t.time.year % 100) p0.0 (omega arith) (rw e at p0.1) in
    let e2 = same_number month t.time.month p2.0 (omega arith) (rw e at p2.1) in
    let e4 = same_number day t.time.day p4.0 d (rw e at p4.1) in
    let e6 = same_number hour t.time.hour p6.0 (omega arith) (rw e at p6.1) in
    let e8 = same_number minute t.time.minute p8.0 (omega arith) (rw e at p8.1) in
    let e10 = same_number second t.time.second p10.0 (omega arith) (rw e at p10.1) in
    let years : t.time.year ≡ year = omega arith in
    cc

-- a result that is present is what is read
pub some_read : {T : Type 0} (P : T → Type 0) (N : Type 0) (r : Option T) → IsSome r → MatchOption r N P → (t : T) × P t
some_read P N None there m = absurd cc
some_read P N (Some t) there m = (t, m)
