-- The word DATE: a day, or a second of one (ISO 8601).
use Rattle.std.specs.Prelude.{◌≡◌, ◌⊎◌, ℕ, ◌/◌, ◌%◌, List, ◌++◌, codes}
use Rattle.asn1_types.specs.Time.{two_digits, year_of, month_of, day_of, hour_of, minute_of, second_of}
use Rattle.asn1_types.specs.declared.generalized_time.GeneralizedTime.{GeneralizedTime}

-- YYYY-MM-DD
abbrev pub day_text : GeneralizedTime → List ℕ
day_text t =
    two_digits (year_of t / 100) ++ two_digits (year_of t % 100) ++ codes "-"
    ++ two_digits (month_of t) ++ codes "-" ++ two_digits (day_of t)

-- YYYY-MM-DDTHH:MM:SS
abbrev pub moment_text : GeneralizedTime → List ℕ
moment_text t =
    day_text t ++ codes "T" ++ two_digits (hour_of t) ++ codes ":" ++ two_digits (minute_of t)
    ++ codes ":" ++ two_digits (second_of t)

-- it is the first second of its day
pub record IsMidnight (t : GeneralizedTime) : Type 0 where
  pub hour : hour_of t ≡ 0
  pub minute : minute_of t ≡ 0
  pub second : second_of t ≡ 0

-- The word is this moment in digits, or only its day if it is the day's first second.
abbrev pub IsDateWord : List ℕ → GeneralizedTime → Type 0
IsDateWord word t = ((word ≡ day_text t) × IsMidnight t) ⊎ (word ≡ moment_text t)
