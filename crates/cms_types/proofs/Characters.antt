-- Texts character by character.
use Rattle.std.proofs.Common.{◌≡◌, ◌≤◌, ◌/◌, ◌%◌, ℕ, List, [], ◌∷◌, ◌++◌, length, flat_map, chars, encode_utf8, IsUtf8, refl, sym, ap, subst, ◌∙◌, arith}
use Rattle.std.specs.List.{All}
use Rattle.std.specs.Int.{to_be_bytes, w16}
use Rattle.std.proofs.lemmas.List.{nil_from_length}
use Rattle.std.proofs.lemmas.List.Elements.{All-nil, All-cons, All-head, All-tail}
use Rattle.std.proofs.lemmas.Str.{chars-nil, chars_past_char}
use Rattle.cms_types.specs.Units.{IsBasicPlane, unit_octets, text_units}

abbrev basic : ℕ → Type 0
basic character = character ≤ 0xFFFF

chars_of_empty : (text : List ℕ) → length text ≡ 0 → chars text ≡ []
chars_of_empty text none = ap chars (nil_from_length text none) ∙ chars-nil

-- the empty text is basic, and has no units
pub basic_empty : (text : List ℕ) → length text ≡ 0 → IsBasicPlane text
basic_empty text none = subst (All basic) (sym (chars_of_empty text none)) (All-nil basic)

pub units_empty : (text : List ℕ) → length text ≡ 0 → text_units text ≡ []
units_empty text none = ap (flat_map unit_octets) (chars_of_empty text none)

-- a text is basic where its first character and the rest are
pub basic_front : (text rest : List ℕ) (c : ℕ) → IsUtf8 text → text ≡ encode_utf8 c ++ rest → IsBasicPlane text → c ≤ 0xFFFF
basic_front text rest c utf8 parts all = All-head basic c (chars rest) (subst (All basic) (chars_past_char text rest c utf8 parts) all)

pub basic_back : (text rest : List ℕ) (c : ℕ) → IsUtf8 text → text ≡ encode_utf8 c ++ rest → IsBasicPlane text → IsBasicPlane rest
basic_back text rest c utf8 parts all = All-tail basic c (chars rest) (subst (All basic) (chars_past_char text rest c utf8 parts) all)

pub basic_step : (text rest : List ℕ) (c : ℕ) → IsUtf8 text → text ≡ encode_utf8 c ++ rest → c ≤ 0xFFFF → IsBasicPlane rest → IsBasicPlane text
basic_step text rest c utf8 parts here all = subst (All basic) (sym (chars_past_char text rest c utf8 parts)) (All-cons basic c (chars rest) here all)

-- its units are that of the first character and those of the rest
pub units_step : (text rest : List ℕ) (c : ℕ) → IsUtf8 text → text ≡ encode_utf8 c ++ rest → text_units text ≡ unit_octets c ++ text_units rest
units_step text rest c utf8 parts = ap (flat_map unit_octets) (chars_past_char text rest c utf8 parts)

-- there are two octets for each unit
pub even_units : (characters : List ℕ) → length (flat_map unit_octets characters) % 2 ≡ 0
even_units [] = refl
even_units (c ∷ cs) = omega (arith, even_units cs)
