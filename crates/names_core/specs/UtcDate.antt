-- Dates as the times of certificates (RFC 5280 4.1.2.5).
use Rattle.std.specs.Prelude.{◌≡◌, ◌↔◌, ⊤, ℕ, List}
use Rattle.asn1_types.specs.Calendar.{IsUtcYear}
use Rattle.asn1_types.specs.Time.{generalized_fields, utc_fields, year_of}
use Rattle.asn1_types.specs.declared.generalized_time.GeneralizedTime.{GeneralizedTime}
use Rattle.asn1_types.specs.declared.time.Time.{Time}
use Rattle.asn1_types.specs.declared.time.Time.TheVariants as times

-- the fields of a time in either form
abbrev pub time_fields : Time → List ℕ
time_fields (times.Utc time) = utc_fields time
time_fields (times.Generalized time) = generalized_fields time

-- the time is a UTCTime
abbrev pub IsUtc : Time → Type 0
IsUtc (times.Utc time) = ⊤
IsUtc (times.Generalized time) = ⊥

-- The time is that of the date, and a UTCTime exactly if the year is in 1950 to 2049.
pub record IsTimeOf (date : GeneralizedTime) (time : Time) : Type 0 where
  pub moment : time_fields time ≡ generalized_fields date
  pub form : IsUtc time ↔ IsUtcYear (year_of date)
