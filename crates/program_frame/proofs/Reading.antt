-- Reading a file piece by piece.
use Rattle.std.proofs.Common.{◌≡◌, ℕ, ◌+◌, ◌<◌, inl, inr, List, [], ◌++◌, length, take, drop, Option}
use Rattle.std.proofs.Common.{Some, refl, sym, ◌∙◌, ap, arith, append_assoc, append-nil, length-append}
use Rattle.std.proofs.lemmas.List.{take-append-drop}
use Rattle.der_core.specs.Counts.{GoesOn, HasRisen, RisesBy}
use Rattle.program_frame.specs.Limits.{longest_file}
use Rattle.program_frame.specs.Shelf.{Files, file_of, IsPicked, Moves}

-- what was read so far of the file with this name, and the rest of it
pub record HasRead (files : Option Files) (name octets : List ℕ) (rest : Option (List ℕ)) : Type 0 where
  pub file : List ℕ
  pub named : file_of files name ≡ Some file
  pub left : List ℕ
  pub rest_is : rest ≡ Some left
  pub whole : octets ++ left ≡ file

pub reads_nothing : (files : Option Files) (name : List ℕ) (rest : Option (List ℕ))
    → IsPicked files name rest → HasRead files name [] rest
reads_nothing files name rest picked = record { file = picked.0; named = picked.1; left = picked.0; rest_is = picked.2; whole = refl }

pub reads_more : (files : Option Files) (name octets more piece : List ℕ) (n : ℕ) (rest after : Option (List ℕ)) (read : HasRead files name octets rest)
    → Moves n read.left piece after → more ≡ take n piece → HasRead files name (octets ++ more) after
reads_more files name octets more piece n rest after read moves is = record {
  file = read.file;
  named = read.named;
  left = drop n read.left;
  rest_is = moves.rest;
  whole =
      append_assoc octets more (drop n read.left)
      ∙ ap (λ (l : List ℕ). octets ++ l) (ap (λ (l : List ℕ). l ++ drop n read.left) (is
      ∙ moves.front) ∙ take-append-drop n read.left)
      ∙ read.whole;
}

-- at the end the file is what was read
pub reads_all : (files : Option Files) (name octets piece : List ℕ) (n : ℕ) (rest after : Option (List ℕ)) (read : HasRead files name octets rest)
    → Moves n read.left piece after → n ≡ 0 → 0 < length piece → file_of files name ≡ Some octets
reads_all files name octets piece n rest after read moves none some =
    read.named ∙ ap Some (sym read.whole ∙ ap (λ (l : List ℕ). octets ++ l) (moves.none none some)
    ∙ append-nil octets)

pub reads_too_much : (files : Option Files) (name octets : List ℕ) (rest : Option (List ℕ))
    → HasRead files name octets rest → longest_file < length octets → (file : List ℕ)
    × (file_of files name ≡ Some file) × (longest_file < length file)
reads_too_much files name octets rest read more =
    (read.file, read.named, omega (arith, more, ap length read.whole, length-append octets read.left))

pub rises_none : (before now : ℕ) → now ≡ before → RisesBy 0 before now
rises_none before now same = omega (arith, same)

pub rises_more : (first next last m n : ℕ) → RisesBy m first next → RisesBy n next last
    → RisesBy (m + n) first last
rises_more first next last m n before after = omega (arith, before, after)

pub goes_further : (first next last : ℕ) → GoesOn first next → GoesOn next last → GoesOn first last
goes_further first next last before after = record { no_fall = omega (arith, before.no_fall, after.no_fall); fits = after.fits }

pub has_risen_since : (first next last : ℕ) → GoesOn first next → HasRisen next last
    → HasRisen first last
has_risen_since first next last before (inl more) = inl (omega (arith, before.no_fall, more))
has_risen_since first next last before (inr stands) = inr stands
