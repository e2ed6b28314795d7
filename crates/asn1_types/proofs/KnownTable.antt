-- The rows of the table are computed: each text and its contents octets have the same arcs, and no
-- two rows share a column.
use Rattle.std.proofs.Common.{◌≡◌, ◌≢◌, ℕ, zero, suc, ◌+◌, ◌*◌, ◌^◌, Bool, true, false, ◌&&◌, ◌||◌, not, nat_lt}
use Rattle.std.proofs.Common.{nat_le, eqb, List, [], ◌∷◌, map, refl, sym, ap, ap₂, ◌∙◌, arith, inl, inr}
use Rattle.std.specs.List.{AllByRecursion, AllPairs, All, slice_split, list_all, list_any}
use Rattle.std.specs.Fmt.{digits}
use Rattle.std.specs.Str.{bytes_eq}
use Rattle.std.specs.Str.Parse.{digits_value}
use Rattle.std.proofs.lemmas.Bool.{and_parts, or_cases, not-true, leb-true, ltb-true, both_ways}
use Rattle.std.proofs.lemmas.Slice.Eq.{bytes_eq-Decides}
use Rattle.asn1_types.specs.Subidentifier.{IsSubidentifier, subidentifier}
use Rattle.asn1_types.specs.ObjectIdentifier.{IsArcs, IsIdentifier, contents_of, dotted}
use Rattle.asn1_types.specs.KnownIdentifiers.{KnownRow, known_row, known_rows, is_known, IsOfOneIdentifier, Differ}
use Rattle.asn1_types.specs.NamedIdentifiers.{named_identifiers}

-- the numbers between the dots of a text
abbrev numbers_in : List ℕ → List ℕ
numbers_in text = map (digits_value 10) (slice_split (λ octet. eqb octet 46) text)

abbrev are_arcs : List ℕ → Bool
are_arcs [] = false
are_arcs (first ∷ []) = false
are_arcs (first ∷ second ∷ more) =
    nat_le first 2 && (nat_le 2 first || nat_le second 39) && nat_lt (40 * first + second) (2 ^ 128)
    && list_all (λ arc. nat_lt arc (2 ^ 128)) more

abbrev agrees : KnownRow → Bool
agrees row =
    are_arcs (numbers_in row.text) && bytes_eq row.text (dotted (numbers_in row.text))
    && bytes_eq row.contents (contents_of (numbers_in row.text))

abbrev same : KnownRow → KnownRow → Bool
same a b = bytes_eq a.name b.name && bytes_eq a.text b.text && bytes_eq a.contents b.contents

abbrev all_same : List KnownRow → List KnownRow → Bool
all_same [] [] = true
all_same [] (b ∷ bs) = false
all_same (a ∷ rows) [] = false
all_same (a ∷ rows) (b ∷ bs) = same a b && all_same rows bs

rows_same : all_same known_rows named_identifiers ≡ true
unfolding known_rows
rows_same = refl

all_agree : list_all agrees known_rows ≡ true
unfolding known_rows subidentifier digits
all_agree = refl

abbrev differ : KnownRow → KnownRow → Bool
differ a b = not (bytes_eq a.name b.name) && not (bytes_eq a.text b.text) && not (bytes_eq a.contents b.contents)

abbrev all_differ : List KnownRow → Bool
all_differ [] = true
all_differ (row ∷ rows) = list_all (differ row) rows && all_differ rows

rows_differ : all_differ known_rows ≡ true
unfolding known_rows
rows_differ = refl

-- ---- what the tests mean

bounded : (arcs : List ℕ) → list_all (λ arc. nat_lt arc (2 ^ 128)) arcs ≡ true → AllByRecursion IsSubidentifier arcs
bounded [] e = tt
bounded (x ∷ xs) e = let parts = and_parts _ _ e in (ltb-true _ _ parts.0, bounded xs parts.1)

arcs_from : (arcs : List ℕ) → are_arcs arcs ≡ true → IsArcs arcs
arcs_from [] e = cc
arcs_from (x ∷ []) e = cc
arcs_from (x ∷ y ∷ xs) e =
    let last = and_parts _ _ e in
    let root = and_parts _ _ last.0 in
    let both = and_parts _ _ root.0 in (
      record {
        first_low = leb-true _ _ both.0;
        second_low = λ less. elim (or_cases (nat_le 2 x) (nat_le y 39) both.1) [
          | inl two ↦ let h = leb-true 2 x two in absurd (omega arith)
          | inr low ↦ leb-true _ _ low
        ];
        bounded = ltb-true _ _ root.1;
      },
      bounded xs last.1,
    )

one_row : (a b : KnownRow) → same a b ≡ true → a ≡ b
one_row a b e =
    let last = and_parts _ _ e in
    let both = and_parts _ _ last.0 in
    let name = (bytes_eq-Decides a.name b.name).0 both.0 in
    let text = (bytes_eq-Decides a.text b.text).0 both.1 in
    let contents = (bytes_eq-Decides a.contents b.contents).0 last.1 in
    ap (λ n. known_row n a.text a.contents) name ∙ ap (λ t. known_row b.name t a.contents) text ∙ ap (known_row b.name b.text) contents

all_rows : (rows bs : List KnownRow) → all_same rows bs ≡ true → rows ≡ bs
all_rows [] [] e = refl
all_rows [] (b ∷ bs) e = cc
all_rows (a ∷ rows) [] e = cc
all_rows (a ∷ rows) (b ∷ bs) e =
    let parts = and_parts _ _ e in
    ap₂ (λ one others. one ∷ others) (one_row a b parts.0) (all_rows rows bs parts.1)

pub rows_named : known_rows ≡ named_identifiers
rows_named = all_rows known_rows named_identifiers rows_same

agreed : (row : KnownRow) → agrees row ≡ true → IsOfOneIdentifier row
agreed row e =
    let last = and_parts _ _ e in
    let both = and_parts _ _ last.0 in record {
      arcs = numbers_in row.text;
      are_arcs = arcs_from (numbers_in row.text) both.0;
      printed = (bytes_eq-Decides row.text (dotted (numbers_in row.text))).0 both.1;
      encoded = (bytes_eq-Decides row.contents (contents_of (numbers_in row.text))).0 last.1;
    }

apart : (a b : List ℕ) → not (bytes_eq a b) ≡ true → a ≢ b
apart a b e same = both_ways (bytes_eq a b) (not-true _ e) ((bytes_eq-Decides a b).1 same)

differed : (a b : KnownRow) → differ a b ≡ true → Differ a b
differed a b e =
    let last = and_parts _ _ e in
    let both = and_parts _ _ last.0 in record {
      names = apart a.name b.name both.0;
      texts = apart a.text b.text both.1;
      contents = apart a.contents b.contents last.1;
    }

at_each : (test : KnownRow → Bool) (P : KnownRow → Type 0) → ((row : KnownRow) → test row ≡ true → P row)
    → (rows : List KnownRow) → list_all test rows ≡ true → All P rows
at_each test P means [] e k d within = absurd (omega arith)
at_each test P means (row ∷ rows) e zero d within = means row (and_parts _ _ e).0
at_each test P means (row ∷ rows) e (suc k) d within = at_each test P means rows (and_parts _ _ e).1 k d (omega arith)

at_pairs : (rows : List KnownRow) → all_differ rows ≡ true → AllPairs Differ rows
at_pairs [] e i j d less within = absurd (omega arith)
at_pairs (row ∷ rows) e i zero d less within = absurd (omega arith)
at_pairs (row ∷ rows) e zero (suc j) d less within =
    at_each (differ row) (Differ row) (differed row) rows (and_parts _ _ e).0 j d (omega arith)
at_pairs (row ∷ rows) e (suc i) (suc j) d less within = at_pairs rows (and_parts _ _ e).1 i j d (omega arith) (omega arith)

pub each_agrees : All IsOfOneIdentifier known_rows
each_agrees = at_each agrees IsOfOneIdentifier agreed known_rows all_agree

pub all_apart : AllPairs Differ known_rows
all_apart = at_pairs known_rows rows_differ

known_among : (contents : List ℕ) (rows : List KnownRow) → All IsOfOneIdentifier rows
    → list_any (λ row. bytes_eq row.contents contents) rows ≡ true → IsIdentifier contents
known_among contents [] all e = cc
known_among contents (row ∷ rows) all e = elim (or_cases (bytes_eq row.contents contents) (list_any (λ r. bytes_eq r.contents contents) rows) e) [
  | inl here ↦
      let one : IsOfOneIdentifier row = all 0 row (omega arith) in record {
        arcs = one.arcs;
        are_arcs = one.are_arcs;
        spelled = sym ((bytes_eq-Decides row.contents contents).0 here) ∙ one.encoded;
      }
  | inr later ↦ known_among contents rows (λ k d within. all (suc k) d (omega arith)) later
]

-- the contents octets of a row are those of an OID
pub known_is : (contents : List ℕ) → is_known contents ≡ true → IsIdentifier contents
unfolding known_rows
known_is contents e = known_among contents known_rows each_agrees e
