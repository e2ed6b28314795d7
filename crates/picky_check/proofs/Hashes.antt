-- A word of too few or too many digits is no hash.
use Rattle.std.proofs.Common.{◌≡◌, ◌⊎◌, ℕ, ◌/◌, ◌<◌, List, length, Result, Ok, Err, None, refl, inl, inr, arith}
use Rattle.hex.specs.declared.error.FromHexError.{FromHexError}
use Rattle.hex.specs.Hex.{decode_of}
use Rattle.hex.proofs.HexLemmas.{decode_of-ok}
use Rattle.picky_check.specs.Words.{sized, asked_hash}

sized_other : (octets : List ℕ) → (length octets ≡ 0) ⊎ (64 < length octets)
    → None ≡ sized (Ok octets)
sized_other octets (inl none) = grind (arith, none)
sized_other octets (inr many) = grind (arith, many)

no_size : (word : List ℕ) (r : Result (List ℕ) FromHexError) → decode_of word ≡ r
    → (length word / 2 ≡ 0) ⊎ (64 < length word / 2) → None ≡ sized r
no_size word (Err e) is other = refl
no_size word (Ok octets) is (inl none) = sized_other octets (inl (omega (arith, none, (decode_of-ok word octets is).2)))
no_size word (Ok octets) is (inr many) = sized_other octets (inr (omega (arith, many, (decode_of-ok word octets is).2)))

pub no_hash : (word : List ℕ) → (length word / 2 ≡ 0) ⊎ (64 < length word / 2) → None ≡ asked_hash word
no_hash word other = no_size word (decode_of word) refl other
