-- Words have no space, and lines no newline.
use Rattle.std.proofs.Common.{◌≢◌, ℕ, zero, suc, ◌<◌, List, [], ◌∷◌, length, get_or, arith}
use Rattle.std.specs.Str.{IsAscii, IsUtf8}
use Rattle.std.proofs.lemmas.Str.{IsUtf8-from_ascii}
use Rattle.ca_register.specs.Lines.{IsLineOfWords, IsWord}

pub no_space : (word : List ℕ) → IsWord word → (i : ℕ) → i < length word → get_or word i 0 ≢ 32
no_space [] is i within = absurd (omega (arith, within))
no_space (octet ∷ word) is zero within = λ same. omega (arith, same, is.0.0)
no_space (octet ∷ word) is (suc i) within = no_space word is.1 i (omega (arith, within))

pub no_newline : (line : List ℕ) → IsLineOfWords line → (i : ℕ) → i < length line → get_or line i 0 ≢ 10
no_newline [] is i within = absurd (omega (arith, within))
no_newline (octet ∷ line) is zero within = λ same. omega (arith, same, is.0.0)
no_newline (octet ∷ line) is (suc i) within = no_newline line is.1 i (omega (arith, within))

-- ASCII is text
pub ascii_text : (octets : List ℕ) → (IsUtf8 octets → ⊥) → IsAscii octets → ⊥
ascii_text octets none ascii = none (IsUtf8-from_ascii octets ascii)
