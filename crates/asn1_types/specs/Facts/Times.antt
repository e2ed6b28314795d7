-- Times with the same fields are the same, and so are times with the same contents octets.
use Rattle.std.proofs.Common.{◌≡◌, ℕ, ◌+◌, ◌<◌, ◌/◌, ◌%◌, List, get_or, rules, arith, ap, subst}
use Rattle.std.specs.Coded.{le_prop}
use Rattle.asn1_types.specs.Calendar.{IsMoment, IsUtcYear}
use Rattle.asn1_types.specs.declared.generalized_time.GeneralizedTime.{GeneralizedTime}
use Rattle.asn1_types.specs.declared.utc_time.UTCTime.{UTCTime}
use Rattle.asn1_types.specs.Time.{two_digits, generalized_contents, generalized_fields, utc_contents, utc_fields}

-- These fields, the year first, are those of a moment.
abbrev pub AreMoment : List ℕ → Type 0
AreMoment xs =
    IsMoment (get_or xs 0 0) (get_or xs 1 0) (get_or xs 2 0) (get_or xs 3 0) (get_or xs 4 0) (get_or xs 5 0)

AreMoment-prop : (xs : List ℕ) → IsProp (AreMoment xs)
AreMoment-prop xs = hlevel (le_prop)

abbrev generalized_of : (xs : List ℕ) → AreMoment xs → GeneralizedTime
generalized_of xs h = record {
  year = get_or xs 0 0;
  month = get_or xs 1 0;
  day = get_or xs 2 0;
  hour = get_or xs 3 0;
  minute = get_or xs 4 0;
  second = get_or xs 5 0;
  exists = h;
}

pub same_generalized : (s t : GeneralizedTime) → generalized_fields s ≡ generalized_fields t → s ≡ t
same_generalized s t e =
    subst (λ (xs : List ℕ). (h : AreMoment xs) → s ≡ generalized_of xs h) e
    (λ h. ap (generalized_of (generalized_fields s)) (AreMoment-prop (generalized_fields s) s.exists h)) t.exists

abbrev utc_of : (t : GeneralizedTime) → IsUtcYear t.year → UTCTime
utc_of t h = record { time = t; of_years = h }

year-prop : (t : GeneralizedTime) → IsProp (IsUtcYear t.year)
year-prop t = hlevel (le_prop)

pub same_utc : (s t : UTCTime) → utc_fields s ≡ utc_fields t → s ≡ t
same_utc s t e =
    subst (λ (time : GeneralizedTime). (h : IsUtcYear time.year) → s ≡ utc_of time h) (same_generalized s.time t.time e)
    (λ h. ap (utc_of s.time) (year-prop s.time s.of_years h)) t.of_years

-- Digits encode one number.
pub same_number : (m n : ℕ) → m < 100 → n < 100 → two_digits m ≡ two_digits n → m ≡ n
same_number m n hm hn e =
    let tens : 48 + m / 10 ≡ 48 + n / 10 = cc in
    let ones : 48 + m % 10 ≡ 48 + n % 10 = cc in
    omega arith

pub day_below : {year month day hour minute second : ℕ} → IsMoment year month day hour minute second → day < 100
day_below h = search (rules, arith)

pub generalized_once : (s t : GeneralizedTime) → generalized_contents s ≡ generalized_contents t → s ≡ t
generalized_once s t e =
    let x = s.exists in
    let y = t.exists in
    let d = day_below x in
    let d' = day_below y in
    let century : two_digits (s.year / 100) ≡ two_digits (t.year / 100) = cc in
    let of_century : two_digits (s.year % 100) ≡ two_digits (t.year % 100) = cc in
    let months : two_digits s.month ≡ two_digits t.month = cc in
    let days : two_digits s.day ≡ two_digits t.day = cc in
    let hours : two_digits s.hour ≡ two_digits t.hour = cc in
    let minutes : two_digits s.minute ≡ two_digits t.minute = cc in
    let seconds : two_digits s.second ≡ two_digits t.second = cc in
    let c = same_number (s.year / 100) (t.year / 100) (omega arith) (omega arith) century in
    let o = same_number (s.year % 100) (t.year % 100) (omega arith) (omega arith) of_century in
    let year : s.year ≡ t.year = omega arith in
    let month = same_number s.month t.month (omega arith) (omega arith) months in
    let day = same_number s.day t.day d d' days in
    let hour = same_number s.hour t.hour (omega arith) (omega arith) hours in
    let minute = same_number s.minute t.minute (omega arith) (omega arith) minutes in
    let second = same_number s.second t.second (omega arith) (omega arith) seconds in
    same_generalized s t cc

pub utc_once : (s t : UTCTime) → utc_contents s ≡ utc_contents t → s ≡ t
utc_once s t e =
    let x = s.time.exists in
    let y = t.time.exists in
    let d = day_below x in
    let d' = day_below y in
    let years : two_digits (s.time.year % 100) ≡ two_digits (t.time.year % 100) = cc in
    let months : two_digits s.time.month ≡ two_digits t.time.month = cc in
    let days : two_digits s.time.day ≡ two_digits t.time.day = cc in
    let hours : two_digits s.time.hour ≡ two_digits t.time.hour = cc in
    let minutes : two_digits s.time.minute ≡ two_digits t.time.minute = cc in
    let seconds : two_digits s.time.second ≡ two_digits t.time.second = cc in
    let o = same_number (s.time.year % 100) (t.time.year % 100) (omega arith) (omega arith) years in
    let within = s.of_years in
    let within' = t.of_years in
    let year : s.time.year ≡ t.time.year = omega arith in
    let month = same_number s.time.month t.time.month (omega arith) (omega arith) months in
    let day = same_number s.time.day t.time.day d d' days in
    let hour = same_number s.time.hour t.time.hour (omega arith) (omega arith) hours in
    let minute = same_number s.time.minute t.time.minute (omega arith) (omega arith) minutes in
    let second = same_number s.time.second t.time.second (omega arith) (omega arith) seconds in
    same_utc s t cc
