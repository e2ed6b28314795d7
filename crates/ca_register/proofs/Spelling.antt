-- The words of a line have no space and no newline.
use Rattle.std.proofs.Common.{◌≡◌, ℕ, suc, ◌<◌, ◌≤◌, ◌/◌, ◌%◌, Bool, true, false, List, [], ◌∷◌, ◌++◌, length, get_or, Option, Some, None, arith, inl, inr}
use Rattle.std.proofs.lemmas.Bool.Decides.{nat_tests}
use Rattle.std.specs.Prelude.{◌==◌, ◌||◌, codes, decimal, if◌then◌else◌}
use Rattle.std.proofs.lemmas.Fmt.{decimal_is_IsNumeral}
use Rattle.std.proofs.lemmas.Str.Parse.{digit_at}
use Rattle.asn1_types.specs.Calendar.{days_in_month, is_leap_year}
use Rattle.asn1_types.specs.Time.{day_of, month_of, two_digits, year_of}
use Rattle.asn1_types.specs.declared.generalized_time.GeneralizedTime.{GeneralizedTime}
use Rattle.program_frame.specs.DateWord.{IsMidnight, day_text}
use Rattle.sig_core.specs.VerdictTable.{space}
use Rattle.ca_register.specs.Lines.{IsIssuer, IsLetterOrDigit, IsLimits, IsLine, IsLineOfWords, IsName, IsPathLength, IsWord, Line, ca_word, dates_words}
use Rattle.ca_register.specs.Lines.{first_word, granted_words, hex_digit, issued_words, key_word, keyed_words, limits_words, line_words, named_words, path_word}
use Rattle.ca_register.specs.declared.text.line.Limits.{Limits}

-- ---- from index to recursion

pub by_index : (word : List ℕ) → ((i : ℕ) → i < length word → (0x21 ≤ get_or word i 0) × (get_or word i 0 < 0x80)) → IsWord word
by_index [] each = tt
by_index (octet ∷ word) each = (each 0 (omega arith), by_index word (λ i within. each (suc i) (omega (arith, within))))

-- ---- words

pub decimal_is_word : (number : ℕ) → number < 1000 → IsWord (decimal number)
decimal_is_word number small =
    by_index (decimal number) (λ i within. let digit = digit_at (decimal number) i (decimal_is_IsNumeral number (omega (arith, small))).0.1 within in
    (omega (arith, digit.0), omega (arith, digit.1)))

digit_is_graphic : (number : ℕ) → number < 16 → (0x21 ≤ hex_digit number) × (hex_digit number < 0x80)
digit_is_graphic number small = grind (arith, nat_tests)

pub key_is_word : (key : ℕ) → key < 256 → IsWord (key_word key)
key_is_word key small = (digit_is_graphic (key / 16) (omega (arith, small)), (digit_is_graphic (key % 16) (omega arith), tt))

letter_is_graphic : (octet : ℕ) → IsLetterOrDigit octet → (0x21 ≤ octet) × (octet < 0x80)
letter_is_graphic octet (inl h) = (omega (arith, h.0), omega (arith, h.1))
letter_is_graphic octet (inr (inl h)) = (omega (arith, h.0), omega (arith, h.1))
letter_is_graphic octet (inr (inr h)) = (omega (arith, h.0), omega (arith, h.1))

pub name_is_word : (name : List ℕ) → IsName name → IsWord name
name_is_word name is = by_index name (λ i within. letter_is_graphic (get_or name i 0) (is.letters i 0 within))

pub ca_is_word : (ca : Bool) → IsWord (ca_word ca)
ca_is_word true = ((omega arith, omega arith), tt)
ca_is_word false = ((omega arith, omega arith), tt)

pub path_is_word : (length : Option ℕ) → IsPathLength length → IsWord (path_word length)
path_is_word None is = ((omega arith, omega arith), tt)
path_is_word (Some number) is = decimal_is_word number (omega (arith, is))

graphic_digits : (number : ℕ) → number < 100 → IsWord (two_digits number)
graphic_digits number small = ((omega arith, omega (arith, small)), ((omega arith, omega arith), tt))

graphic_joined : (front back : List ℕ) → IsWord front → IsWord back → IsWord (front ++ back)
graphic_joined [] back is others = others
graphic_joined (octet ∷ front) back is others = (is.0, graphic_joined front back is.1 others)

dash_is_word : IsWord (codes "-")
dash_is_word = ((omega arith, omega arith), tt)

most_days : (year month : ℕ) → days_in_month year month ≤ 31
most_days year month = by (month == 2) (is_leap_year year) ((month == 4) || (month == 6) || (month == 9) || (month == 11))
  where
    by : (february leap short : Bool) → (if february then (if leap then 29 else 28) else (if short then 30 else 31)) ≤ 31
    by true true short = omega arith
    by true false short = omega arith
    by false leap true = omega arith
    by false leap false = omega arith

pub day_is_word : (date : GeneralizedTime) → IsMidnight date → IsWord (day_text date)
day_is_word date is =
    let day = date.exists.date in
    graphic_joined (two_digits (year_of date / 100)) (two_digits (year_of date % 100) ++ codes "-" ++ two_digits (month_of date) ++ codes "-"
    ++ two_digits (day_of date)) (graphic_digits (date.year / 100) (omega (arith, day.four_digits)))
    (graphic_joined (two_digits (year_of date % 100)) (codes "-" ++ two_digits (month_of date) ++ codes "-" ++ two_digits (day_of date)) (graphic_digits
    (date.year % 100) (omega arith)) (graphic_joined (codes "-") (two_digits (month_of date) ++ codes "-" ++ two_digits (day_of date)) dash_is_word
    (graphic_joined (two_digits (month_of date)) (codes "-" ++ two_digits (day_of date)) (graphic_digits date.month (omega (arith, day.last_month)))
    (graphic_joined (codes "-") (two_digits (day_of date)) dash_is_word
    (graphic_digits date.day (omega (arith, day.last_day, most_days (year_of date) (month_of date))))))))

-- ---- the first word

pub first_is_word : (issuer : Option ℕ) → IsWord (first_word issuer)
first_is_word None = ((omega arith, omega arith), ((omega arith, omega arith), ((omega arith, omega arith), ((omega arith, omega arith), tt))))
first_is_word (Some issuer) =
    ((omega arith, omega arith), ((omega arith, omega arith), ((omega arith, omega arith), ((omega arith, omega arith), ((omega arith, omega arith), tt)))))

-- ---- a line of words

pub word_in_line : (word : List ℕ) → IsWord word → IsLineOfWords word
word_in_line [] is = tt
word_in_line (octet ∷ word) is = ((omega (arith, is.0.0), is.0.1), word_in_line word is.1)

-- a word, a space and words
pub joined : (word rest : List ℕ) → IsWord word → IsLineOfWords rest → IsLineOfWords (word ++ space ∷ rest)
joined [] rest is others = ((omega arith, omega arith), others)
joined (octet ∷ word) rest is others = ((omega (arith, is.0.0), is.0.1), joined word rest is.1 others)

limits_in_line : (limits : Limits) → IsLimits limits → IsLineOfWords (limits_words limits)
limits_in_line limits is =
    joined (path_word limits.path_length) (dates_words limits) (path_is_word limits.path_length is.path)
    (joined (day_text limits.from) (day_text limits.to) (day_is_word limits.from is.from) (word_in_line (day_text limits.to) (day_is_word limits.to is.to)))

granted_in_line : (issuer : Option ℕ) (line : Line) → IsLine line → IsLineOfWords (granted_words issuer line)
granted_in_line None line is = limits_in_line line.limits is.limits
granted_in_line (Some issuer) line is = joined (ca_word line.ca) (limits_words line.limits) (ca_is_word line.ca) (limits_in_line line.limits is.limits)

keyed_in_line : (issuer : Option ℕ) (line : Line) → IsLine line → IsLineOfWords (keyed_words issuer line)
keyed_in_line issuer line is =
    joined (key_word line.key) (named_words issuer line) (key_is_word line.key is.key)
    (joined line.name (granted_words issuer line) (name_is_word line.name is.name) (granted_in_line issuer line is))

issued_in_line : (issuer : Option ℕ) (line : Line) → IsIssuer issuer line.ca → IsLine line → IsLineOfWords (issued_words issuer line)
issued_in_line None line from is = keyed_in_line None line is
issued_in_line (Some issuer) line from is =
    joined (decimal issuer) (keyed_words (Some issuer) line) (decimal_is_word issuer (omega (arith, from))) (keyed_in_line (Some issuer) line is)

pub line_in_line : (line : Line) → IsLine line → IsLineOfWords (line_words line)
line_in_line line is =
    joined (first_word line.issuer) (issued_words line.issuer line) (first_is_word line.issuer) (issued_in_line line.issuer line is.issuer is)

-- ---- what is read

pub same_some : {A : Type 0} (x y : A) → Some x ≡ Some y → x ≡ y
same_some x y same = cc

pub none_some : {A : Type 0} (y : A) → None ≡ Some y → ⊥
none_some y same = absurd cc
