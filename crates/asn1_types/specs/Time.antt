-- Both times and their contents octets: decimal digits, then `Z` for universal time (X.690 11.7,
-- 11.8).
use Rattle.std.specs.Prelude.{ℕ, ◌+◌, ◌/◌, ◌%◌, ◌<◌, ◌≡◌, List, [], ◌∷◌, ◌++◌, codes, slice_index}
use Rattle.asn1_types.specs.declared.generalized_time.GeneralizedTime.{GeneralizedTime}
use Rattle.asn1_types.specs.declared.utc_time.UTCTime.{UTCTime}

-- A number below 100 as two digits.
abbrev pub two_digits : ℕ → List ℕ
two_digits n = (48 + n / 10) ∷ (48 + n % 10) ∷ []

-- Two of the octets, from an index on, are the digits of this number.
abbrev pub IsPair : List ℕ → ℕ → ℕ → Type 0
IsPair octets at n =
    (n < 100) × (two_digits n ≡ slice_index octets at ∷ slice_index octets (at + 1) ∷ [])

-- MMDDHHMMSSZ, the end of both.
abbrev pub from_month : ℕ → ℕ → ℕ → ℕ → ℕ → List ℕ
from_month month day hour minute second =
    two_digits month ++ two_digits day ++ two_digits hour ++ two_digits minute ++ two_digits second
    ++ codes "Z"

-- YYYYMMDDHHMMSSZ (X.690 11.7, RFC 5280 4.1.2.5.2).
abbrev pub generalized_contents : GeneralizedTime → List ℕ
generalized_contents t =
    two_digits (t.year / 100) ++ two_digits (t.year % 100)
    ++ from_month t.month t.day t.hour t.minute t.second

-- YYMMDDHHMMSSZ (X.690 11.8, RFC 5280 4.1.2.5.1).
abbrev pub utc_contents : UTCTime → List ℕ
utc_contents utc =
    let t = utc.time in
    two_digits (t.year % 100) ++ from_month t.month t.day t.hour t.minute t.second

-- The year of a time.
abbrev pub year_of : GeneralizedTime → ℕ
year_of t = t.year

-- The month, 1 to 12.
abbrev pub month_of : GeneralizedTime → ℕ
month_of t = t.month

-- The day of the month, from 1 on.
abbrev pub day_of : GeneralizedTime → ℕ
day_of t = t.day

-- The hour, 0 to 23.
abbrev pub hour_of : GeneralizedTime → ℕ
hour_of t = t.hour

-- The minute, 0 to 59.
abbrev pub minute_of : GeneralizedTime → ℕ
minute_of t = t.minute

-- The second, 0 to 59.
abbrev pub second_of : GeneralizedTime → ℕ
second_of t = t.second

-- The fields, the year first.
abbrev pub generalized_fields : GeneralizedTime → List ℕ
generalized_fields t = t.year ∷ t.month ∷ t.day ∷ t.hour ∷ t.minute ∷ t.second ∷ []

-- The fields of a UTCTime, with all digits of the year.
abbrev pub utc_fields : UTCTime → List ℕ
utc_fields utc = generalized_fields utc.time

-- The text of a time: YYYY-MM-DD HH:MM:SS.
abbrev pub time_text : GeneralizedTime → List ℕ
time_text t =
    two_digits (t.year / 100) ++ two_digits (t.year % 100) ++ codes "-" ++ two_digits t.month
    ++ codes "-" ++ two_digits t.day ++ codes " " ++ two_digits t.hour ++ codes ":"
    ++ two_digits t.minute ++ codes ":" ++ two_digits t.second
