-- A search in the rows stops at the first match.
use Rattle.std.proofs.Common.{◌≡◌, ◌≢◌, ℕ, ◌+◌, ◌<◌, List, map, length, get_or, Bor, refl, sym, ap, ◌∙◌, inl, inr, arith}
use Rattle.std.proofs.lemmas.Bool.{cases_lt}
use Rattle.std.proofs.lemmas.List.{get_or-map, length-map}
use Rattle.asn1_types.specs.KnownIdentifiers.{KnownRow, known_row, HasRow}

abbrev pub References : Type 0
References = Bor (List ℕ) × Bor (List ℕ) × Bor (List ℕ)

-- the row behind a reference
abbrev pub row_at : References → KnownRow
row_at row = known_row row.0.now row.1.now row.2.now

-- the row at an index is one of the rows
pub row_found : (rows : List References) (place : ℕ) (d : References) → place < length rows
    → HasRow (map row_at rows) (get_or rows place d).0.now (get_or rows place d).1.now (get_or rows place d).2.now
row_found rows place d within =
    let row = row_at (get_or rows place d) in
    let many = length-map rows row_at in
    (place, row, omega arith, get_or-map row_at rows place d row within, refl)

-- one more row doesn't match
pub row_passed : (column : KnownRow → List ℕ) (rows : List References) (place : ℕ) (d : References) (wanted : List ℕ)
    → place < length rows → column (row_at (get_or rows place d)) ≢ wanted
    → ((k : ℕ) (e : KnownRow) → k < place → column (get_or (map row_at rows) k e) ≢ wanted)
    → (k : ℕ) (e : KnownRow) → k < place + 1 → column (get_or (map row_at rows) k e) ≢ wanted
row_passed column rows place d wanted within other before k e less same =
    elim (cases_lt k place) [
      | inl earlier ↦ before k e earlier same
      | inr here ↦
          let at : place ≡ k = omega arith in
          other (ap column (sym (get_or-map row_at rows place d e within) ∙ ap (λ n. get_or (map row_at rows) n e) at) ∙ same)
    ]
