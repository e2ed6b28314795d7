-- The text of a register: a line for each certificate.
use Rattle.std.specs.Prelude.{All, ◌≡◌, ◌<◌, ◌≤◌, ◌+◌, ◌/◌, ◌%◌, ◌⊎◌, ⊤, ℕ, Bool, true, false, IsTrue, List}
use Rattle.std.specs.Prelude.{[], ◌∷◌, ◌++◌, length, Option, Some, None, codes, decimal, nat_lt, if◌then◌else◌}
use Rattle.std.specs.List.{AllByRecursion, flat_map}
use Rattle.program_frame.specs.DateWord.{IsMidnight, day_text}
use Rattle.sig_core.specs.VerdictTable.{newline, space}
use Rattle.ca_register.specs.declared.text.line.Limits.{Limits}

-- A line: the certificate's issuer by the index of its line, none of a root; the number of its key;
-- its common name; whether it is that of a CA; its path length and validity.
pub record Line : Type 0 where
  pub issuer : Option ℕ
  pub key : ℕ
  pub name : List ℕ
  pub ca : Bool
  pub limits : Limits

-- ---- words

-- a number below 16 as an upper-case hexadecimal digit
abbrev pub hex_digit : ℕ → ℕ
hex_digit number = if nat_lt number 10 then 0x30 + number else 0x37 + number

-- NN: two upper-case hexadecimal digits
abbrev pub key_word : ℕ → List ℕ
key_word key = hex_digit (key / 16) ∷ hex_digit (key % 16) ∷ []

-- CA: y or n
abbrev pub ca_word : Bool → List ℕ
ca_word true = codes "y"
ca_word false = codes "n"

-- PATH: - or the number in decimal
abbrev pub path_word : Option ℕ → List ℕ
path_word None = codes "-"
path_word (Some number) = decimal number

-- FROM TO
abbrev pub dates_words : Limits → List ℕ
dates_words limits = day_text limits.from ++ space ∷ day_text limits.to

-- PATH FROM TO
abbrev pub limits_words : Limits → List ℕ
limits_words limits = path_word limits.path_length ++ space ∷ dates_words limits

-- the words behind the name: of a root PATH FROM TO, of a child CA PATH FROM TO
abbrev pub granted_words : Option ℕ → Line → List ℕ
granted_words None line = limits_words line.limits
granted_words (Some issuer) line = ca_word line.ca ++ space ∷ limits_words line.limits

-- NAME and the words behind it
abbrev pub named_words : Option ℕ → Line → List ℕ
named_words issuer line = line.name ++ space ∷ granted_words issuer line

-- NN and the words behind it
abbrev pub keyed_words : Option ℕ → Line → List ℕ
keyed_words issuer line = key_word line.key ++ space ∷ named_words issuer line

-- of a root the words behind `root`, of a child those behind `child`
abbrev pub issued_words : Option ℕ → Line → List ℕ
issued_words None line = keyed_words None line
issued_words (Some issuer) line = decimal issuer ++ space ∷ keyed_words (Some issuer) line

-- the first word
abbrev pub first_word : Option ℕ → List ℕ
first_word None = codes "root"
first_word (Some issuer) = codes "child"

-- the words of a line: of a root `root NN NAME PATH FROM TO`, of a child `child I NN NAME CA PATH
-- FROM TO`
abbrev pub line_words : Line → List ℕ
line_words line = first_word line.issuer ++ space ∷ issued_words line.issuer line

-- the line, with a newline at its end
abbrev pub line_text : Line → List ℕ
line_text line = line_words line ++ newline ∷ []

-- ---- which lines are in the form

-- an ASCII letter or digit
abbrev pub IsLetterOrDigit : ℕ → Type 0
IsLetterOrDigit octet =
    ((0x30 ≤ octet) × (octet ≤ 0x39)) ⊎ (((0x41 ≤ octet) × (octet ≤ 0x5A))
    ⊎ ((0x61 ≤ octet) × (octet ≤ 0x7A)))

-- NAME: 1 to 64 ASCII letters or digits
pub record IsName (name : List ℕ) : Type 0 where
  pub some : 1 ≤ length name
  pub most : length name ≤ 64
  pub letters : All IsLetterOrDigit name

-- a path length, if any, is below 256
abbrev pub IsPathLength : Option ℕ → Type 0
IsPathLength None = ⊤
IsPathLength (Some number) = number < 256

-- Both dates are the first second of a day.
pub record IsLimits (limits : Limits) : Type 0 where
  pub path : IsPathLength limits.path_length
  pub from : IsMidnight limits.from
  pub to : IsMidnight limits.to

-- a root is a CA, and the index of an issuer is at most 199
abbrev pub IsIssuer : Option ℕ → Bool → Type 0
IsIssuer None ca = IsTrue ca
IsIssuer (Some index) ca = index ≤ 199

-- The line is in the form.
pub record IsLine (line : Line) : Type 0 where
  pub issuer : IsIssuer line.issuer line.ca
  pub key : line.key < 256
  pub name : IsName line.name
  pub limits : IsLimits line.limits

-- The text consists of these lines, at most 200.
pub record IsRegisterText (text : List ℕ) (lines : List Line) : Type 0 where
  pub few : length lines ≤ 200
  pub each : AllByRecursion IsLine lines
  pub spelled : text ≡ flat_map line_text lines

-- a line of the text isn't in the form, or it is the 201st, or ends without a newline
abbrev pub HasBadLine : List ℕ → Type 0
HasBadLine text = (lines : List Line) → IsRegisterText text lines → ⊥

-- ---- where a text is cut

-- no space, no newline and nothing past ASCII is in a word
abbrev pub IsWord : List ℕ → Type 0
IsWord word = AllByRecursion (λ octet. (0x21 ≤ octet) × (octet < 0x80)) word

-- words with spaces between
abbrev pub IsLineOfWords : List ℕ → Type 0
IsLineOfWords line = AllByRecursion (λ octet. (0x20 ≤ octet) × (octet < 0x80)) line
