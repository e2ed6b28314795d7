-- The texts of the strings of names, as octets of UTF-8.
use Rattle.name_types.specs.declared.directory_string.DirectoryString.{DirectoryString}
use Rattle.name_types.specs.declared.directory_string.DirectoryString.TheVariants as strings
use Rattle.std.specs.Prelude.{ℕ, ◌+◌, ◌*◌, nat_le, nat_lt, Bool, ◌&&◌, if◌then◌else◌, List, [], ◌∷◌, ◌++◌, map}
use Rattle.std.specs.Char.{encode_utf8}
use Rattle.std.specs.Str.{is_utf8}

-- the replacement for what isn't a character
abbrev pub question_mark : ℕ
question_mark = 63

-- an octet of ASCII as it is, `?` for another
abbrev pub ascii_or_mark : ℕ → ℕ
ascii_or_mark octet = if nat_lt octet 128 then octet else question_mark

-- octets as ASCII
abbrev pub ascii_text : List ℕ → List ℕ
ascii_text octets = map ascii_or_mark octets

-- octets of UTF-8 as they are, others as ASCII
abbrev pub utf8_text : List ℕ → List ℕ
utf8_text octets = if is_utf8 octets then octets else ascii_text octets

-- one half of a surrogate pair (Unicode 3.8)
abbrev pub is_surrogate : ℕ → Bool
is_surrogate unit = nat_le 0xD800 unit && nat_lt unit 0xE000

-- the character of a unit of two octets, `?` for a surrogate
abbrev pub unit_character : ℕ → ℕ
unit_character unit = if is_surrogate unit then question_mark else unit

-- A BMPString has units of two octets, the most significant first (X.690 8.23.8); an odd last octet
-- is printed as `?`.
abbrev pub bmp_text : List ℕ → List ℕ
bmp_text [] = []
bmp_text (last ∷ []) = question_mark ∷ []
bmp_text (high ∷ low ∷ rest) = encode_utf8 (unit_character (256 * high + low)) ++ bmp_text rest

-- the text of a string by its type
abbrev pub text_of : DirectoryString → List ℕ
text_of (strings.Utf8String octets) = utf8_text octets
text_of (strings.PrintableString octets) = ascii_text octets
text_of (strings.TeletexString octets) = ascii_text octets
text_of (strings.BmpString octets) = bmp_text octets
