-- A list of words, by its first word and the later ones.
use Rattle.std.proofs.Common.{◌≡◌, ℕ, ◌-◌, ◌≤◌, List, [], ◌∷◌, length, get_or, take, drop, map, Option, Some, None, option_map, sym, ap, ◌∙◌, arith}
use Rattle.std.proofs.lemmas.List.{take_all}

-- the words after the first, as in the code
abbrev pub behind : {W : Type 0} → List W → List W
behind words = take (length words - 1) (drop 1 words)

pub words_are : {W : Type 0} (text : W → List ℕ) (words : List W) (first : W) (command : List ℕ) → 1 ≤ length words → first ≡ get_or words 0 first
    → text first ≡ command
    → map text words ≡ command ∷ map text (behind words)
words_are text [] first command some is said = absurd (omega arith)
words_are text (word ∷ words) first command some is said =
    let all = take_all (length (word ∷ words) - 1) words (omega arith) in
    cc

-- what is found in the words is the only thing that they request
pub one_asked : {A B : Type 0} (f : A → B) (o : Option A) (a : A) (b : B) → o ≡ Some a → option_map f o ≡ Some b → f a ≡ b
one_asked f None a b is e = absurd cc
one_asked f (Some x) a b is e =
    let same : x ≡ a = (cc) in
    let asked : f x ≡ b = (cc) in
    ap f (sym same) ∙ asked
