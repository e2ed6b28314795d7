-- The texts of strings as they are written.
use Rattle.name_types.specs.Text.{utf8_text, ascii_text, bmp_text, question_mark}
use Rattle.std.proofs.Common.{◌≡◌, ℕ, List, [], ◌∷◌, length, ◌<◌, arith, true, false, refl}
use Rattle.std.specs.Str.{IsUtf8, is_utf8}
use Rattle.std.proofs.lemmas.Str.{IsUtf8-from_is_utf8, is_utf8-from_IsUtf8}

pub utf8_kept : (octets : List ℕ) → IsUtf8 octets → utf8_text octets ≡ octets
utf8_kept octets utf8 = rw (is_utf8-from_IsUtf8 octets utf8) refl

pub utf8_marked : (octets : List ℕ) → (IsUtf8 octets → ⊥) → utf8_text octets ≡ ascii_text octets
utf8_marked octets other = go (is_utf8 octets) refl
  where
    go : (b : _) → is_utf8 octets ≡ b → utf8_text octets ≡ ascii_text octets
    go true e = absurd (other (IsUtf8-from_is_utf8 octets e))
    go false e = rw e refl

-- one octet: fewer than two and more than none
pub one_octet_left : (octets : List ℕ) → length octets < 2 → (length octets ≡ 0 → ⊥) → bmp_text octets ≡ question_mark ∷ []
one_octet_left [] few some = absurd (some refl)
one_octet_left (a ∷ []) few some = refl
one_octet_left (a ∷ b ∷ octets) few some = absurd (omega (arith, few))
