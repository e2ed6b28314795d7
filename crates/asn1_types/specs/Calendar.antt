-- The Gregorian calendar of the years 0 to 9999 and the time of day in universal time, to the
-- second (ISO 8601, X.680 46).
use Rattle.std.specs.Prelude.{ℕ, ◌%◌, ◌≤◌, Bool, ◌&&◌, ◌||◌, ◌==◌, not, if◌then◌else◌}

-- A year that 4 divides is a leap year, year 0 too, but one that 100 divides only if 400 does.
abbrev pub is_leap_year : ℕ → Bool
is_leap_year year = (year % 4 == 0) && (not (year % 100 == 0) || (year % 400 == 0))

-- February has 28 days and in a leap year 29; April, June, September and November have 30, the
-- others 31.
abbrev pub days_in_month : ℕ → ℕ → ℕ
days_in_month year month =
    if month == 2 then (if is_leap_year year then 29 else 28)
    else (if (month == 4) || (month == 6) || (month == 9) || (month == 11) then 30 else 31)

-- The calendar has this day.
pub record IsCalendarDate (year month day : ℕ) : Type 0 where
  pub four_digits : year ≤ 9999
  pub first_month : 1 ≤ month
  pub last_month : month ≤ 12
  pub first_day : 1 ≤ day
  pub last_day : day ≤ days_in_month year month

-- The day exists, and so does this time of day: there is no hour 24 and no leap second.
pub record IsMoment (year month day hour minute second : ℕ) : Type 0 where
  pub date : IsCalendarDate year month day
  pub last_hour : hour ≤ 23
  pub last_minute : minute ≤ 59
  pub last_second : second ≤ 59

-- The years that two digits can represent: 50 to 99 mean 19YY, 00 to 49 mean 20YY (RFC 5280
-- 4.1.2.5.1).
pub record IsUtcYear (year : ℕ) : Type 0 where
  pub first_year : 1950 ≤ year
  pub last_year : year ≤ 2049
