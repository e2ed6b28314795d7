-- A run of `picky_ask` and one of another program that read the same octets.
use Rattle.std.proofs.Common.{inl, inr}
use Rattle.std.specs.Prelude.{◌≡◌, ℕ, List, Option, Some}
use Rattle.pe_core.specs.Bound.{table_of}
use Rattle.program_frame.specs.Shelf.{Files, ShelfState, file_of}
use Rattle.picky_check.specs.Vouched.{IsVouched}
use Rattle.pe_image.specs.Vouched.{IsVouchedProgram}
use Rattle.vouching.specs.Listing.{IsListed}

-- both read the same octets as the file SIG, or as the files CERT
abbrev pub ReadSame : {asks words : List (List ℕ)} → {first first_now shelf shelf_now : ShelfState}
    → {lines lines_now held held_now : Option (List ℕ)}
    → IsListed asks first first_now lines lines_now
    → IsVouched words shelf shelf_now held held_now → Type 0
ReadSame (inl ask) (inl run) = ask.octets ≡ run.vouched.octets
ReadSame (inl ask) (inr (inl run)) = ask.octets ≡ run.vouched.octets
ReadSame (inl ask) (inr (inr run)) = ⊥
ReadSame (inr ask) (inl run) = ⊥
ReadSame (inr ask) (inr (inl run)) = ⊥
ReadSame (inr ask) (inr (inr run)) = ask.octets ≡ run.octets

-- the one read as the file SIG the certificate table of the program that the other read
abbrev pub ReadsItsTable : {asks words : List (List ℕ)}
    → {first first_now shelf shelf_now : ShelfState}
    → {lines lines_now held held_now : Option (List ℕ)}
    → IsListed asks first first_now lines lines_now
    → IsVouchedProgram words shelf shelf_now held held_now → Type 0
ReadsItsTable (inl ask) run = ask.octets ≡ table_of run.octets
ReadsItsTable (inr ask) run = ⊥

-- both shelves expose a file, by these names, with the same octets
abbrev pub IsOneFile : (files others : Option Files) → (name other : List ℕ) → Type 0
IsOneFile files others name other =
    (octets : List ℕ) × (file_of files name ≡ Some octets) × (file_of others other ≡ Some octets)
