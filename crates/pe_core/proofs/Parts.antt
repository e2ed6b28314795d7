-- The octets that a signature is about are in three parts.
use Rattle.std.proofs.Common.{◌≡◌, ℕ, suc, ◌+◌, ◌-◌, ◌≤◌, ◌<◌, Bool, true, false, not, ◌&&◌, if◌then◌else◌, nat_le, nat_lt, List, [], ◌∷◌}
use Rattle.std.proofs.Common.{◌++◌, length, drop, slice_range, refl, sym, ap, ◌∙◌, arith, length-take, length-drop, append-nil, append_assoc}
use Rattle.std.proofs.lemmas.Bool.{lt-ltb, le-leb, lt-leb, le-ltb}
use Rattle.std.proofs.lemmas.List.{take-append-drop, drop-drop}
use Rattle.std.proofs.Math.Seq.{drop-length}
use Rattle.pe_core.specs.Bound.{is_within, octets_where, bound_octets, head_of, middle_of, rest_of}
use Rattle.pe_core.specs.Fields.{checksum_offset, entry_offset, table_offset, format_of, magic_of, directories_offset}
use Rattle.pe_core.specs.Image.{IsSignedImage}
use Rattle.pe_core.specs.declared.format.PeFormat.{PeFormat}
use Rattle.pe_core.specs.declared.format.PeFormat.TheVariants.{Pe32, Pe32Plus}

-- ---- octets by a test of their offsets

chosen : (b : Bool) (x : ℕ) (all front back : List ℕ) → all ≡ front ++ back
    → (if b then x ∷ all else all) ≡ (if b then x ∷ front else front) ++ back
chosen true x all front back e = ap (λ (r : List ℕ). x ∷ r) e
chosen false x all front back e = e

if_kept : (b : Bool) (x : ℕ) (xs ys : List ℕ) → b ≡ true → xs ≡ ys → (if b then x ∷ xs else xs) ≡ x ∷ ys
if_kept true x xs ys is same = ap (λ (r : List ℕ). x ∷ r) same
if_kept false x xs ys is same = absurd cc

if_skipped : (b : Bool) (x : ℕ) (xs ys : List ℕ) → b ≡ false → xs ≡ ys → (if b then x ∷ xs else xs) ≡ ys
if_skipped true x xs ys is same = absurd cc
if_skipped false x xs ys is same = same

where_append : (holds : ℕ → Bool) (start : ℕ) (xs ys : List ℕ)
    → octets_where holds start (xs ++ ys) ≡ octets_where holds start xs ++ octets_where holds (start + length xs) ys
where_append holds start [] ys =
    let e : start ≡ start + 0 = omega arith in
    ap (λ (n : ℕ). octets_where holds n ys) e
where_append holds start (x ∷ xs) ys =
    let e : suc start + length xs ≡ start + suc (length xs) = omega arith in
    let later = where_append holds (suc start) xs ys ∙ ap (λ (n : ℕ). octets_where holds (suc start) xs ++ octets_where holds n ys) e in
    chosen (holds start) x _ _ _ later

where_all : (holds : ℕ → Bool) (start : ℕ) (xs : List ℕ) → ((i : ℕ) → start ≤ i → i < start + length xs → holds i ≡ true)
    → octets_where holds start xs ≡ xs
where_all holds start [] all = refl
where_all holds start (x ∷ xs) all =
    if_kept (holds start) x _ _ (all start (omega arith) (omega arith))
    (where_all holds (suc start) xs (λ i low high. all i (omega (arith, low)) (omega (arith, high))))

where_none : (holds : ℕ → Bool) (start : ℕ) (xs : List ℕ) → ((i : ℕ) → start ≤ i → i < start + length xs → holds i ≡ false)
    → octets_where holds start xs ≡ []
where_none holds start [] none = refl
where_none holds start (x ∷ xs) none =
    if_skipped (holds start) x _ _ (none start (omega arith) (omega arith))
    (where_none holds (suc start) xs (λ i low high. none i (omega (arith, low)) (omega (arith, high))))

module _ (holds : ℕ → Bool) (octets : List ℕ) where
  -- the octets from an offset on
  abbrev behind : ℕ → List ℕ
  behind i = octets_where holds i (drop i octets)

  pub length_of : (i j : ℕ) → i ≤ j → j ≤ length octets → i + length (slice_range octets i j) ≡ j
  length_of i j low high = omega (arith, low, high, length-take {A = ℕ} (j - i) (drop i octets), length-drop {A = ℕ} i octets)

  halved : (i j : ℕ) → i ≤ j → j ≤ length octets → behind i ≡ octets_where holds i (slice_range octets i j) ++ behind j
  halved i j low high =
      let part : List ℕ = slice_range octets i j in
      let later : List ℕ = drop (j - i) (drop i octets) in
      let there : i + (j - i) ≡ j = omega (arith, low) in
      let rest : later ≡ drop j octets = drop-drop (j - i) i octets ∙ ap (λ (n : ℕ). drop n octets) there in
      ap (octets_where holds i) (sym (take-append-drop (j - i) (drop i octets)))
      ∙ where_append holds i part later
      ∙ ap (λ (n : ℕ). octets_where holds i part ++ octets_where holds n later) (length_of i j low high)
      ∙ ap (λ (r : List ℕ). octets_where holds i part ++ octets_where holds j r) rest

  kept : (i j : ℕ) → i ≤ j → j ≤ length octets → ((k : ℕ) → i ≤ k → k < j → holds k ≡ true)
      → behind i ≡ slice_range octets i j ++ behind j
  kept i j low high all =
      let len : i + length (slice_range octets i j) ≡ j = length_of i j low high in
      let same : octets_where holds i (slice_range octets i j) ≡ slice_range octets i j =
      where_all holds i (slice_range octets i j) (λ k l h. all k l (omega (arith, h, len))) in
      halved i j low high ∙ ap (λ (xs : List ℕ). xs ++ behind j) same

  skipped : (i j : ℕ) → i ≤ j → j ≤ length octets → ((k : ℕ) → i ≤ k → k < j → holds k ≡ false) → behind i ≡ behind j
  skipped i j low high none =
      let len : i + length (slice_range octets i j) ≡ j = length_of i j low high in
      let same : octets_where holds i (slice_range octets i j) ≡ [] =
      where_none holds i (slice_range octets i j) (λ k l h. none k l (omega (arith, h, len))) in
      halved i j low high ∙ ap (λ (xs : List ℕ). xs ++ behind j) same

  ended : behind (length octets) ≡ []
  ended = ap (octets_where holds (length octets)) (drop-length octets)

-- ---- which offsets are bound

and_no : (a b : Bool) → b ≡ false → (a && b) ≡ false
and_no true b is = is
and_no false b is = refl

before : (start size k : ℕ) → k < start → is_within start size k ≡ false
before start size k low = ap (λ (b : Bool). b && nat_lt k (start + size)) (lt-leb start k low)

after : (start size k : ℕ) → start + size ≤ k → is_within start size k ≡ false
after start size k high = and_no (nat_le start k) (nat_lt k (start + size)) (le-ltb k (start + size) high)

inside : (start size k : ℕ) → start ≤ k → k < start + size → is_within start size k ≡ true
inside start size k low high =
    ap (λ (b : Bool). b && nat_lt k (start + size)) (le-leb start k low) ∙ lt-ltb k (start + size) high

pub yes : (a b d : Bool) → a ≡ false → b ≡ false → d ≡ true → (not a && (not b && d)) ≡ true
yes true b d p q r = absurd cc
yes false true d p q r = absurd cc
yes false false d p q r = r

in_first : (a b d : Bool) → a ≡ true → (not a && (not b && d)) ≡ false
in_first true b d p = refl
in_first false b d p = absurd cc

in_second : (a b d : Bool) → b ≡ true → (not a && (not b && d)) ≡ false
in_second true b d p = refl
in_second false true d p = refl
in_second false false d p = absurd cc

in_third : (a b d : Bool) → d ≡ false → (not a && (not b && d)) ≡ false
in_third true b d p = refl
in_third false true d p = refl
in_third false false d p = p

module _ (c e t : ℕ) (checksum_first : c + 4 ≤ e) (entry_first : e + 8 ≤ t) where
  -- the test of an offset
  abbrev holds : ℕ → Bool
  holds k = not (is_within c 4 k) && (not (is_within e 8 k) && nat_lt k t)

  in_head : (k : ℕ) → k < c → holds k ≡ true
  in_head k h = yes (is_within c 4 k) (is_within e 8 k) (nat_lt k t) (before c 4 k h) (before e 8 k (omega (arith, h, checksum_first)))
      (lt-ltb k t (omega (arith, h, checksum_first, entry_first)))

  in_checksum : (k : ℕ) → c ≤ k → k < c + 4 → holds k ≡ false
  in_checksum k l h = in_first (is_within c 4 k) (is_within e 8 k) (nat_lt k t) (inside c 4 k l h)

  in_middle : (k : ℕ) → c + 4 ≤ k → k < e → holds k ≡ true
  in_middle k l h = yes (is_within c 4 k) (is_within e 8 k) (nat_lt k t) (after c 4 k l) (before e 8 k h) (lt-ltb k t (omega (arith, h, entry_first)))

  in_entry : (k : ℕ) → e ≤ k → k < e + 8 → holds k ≡ false
  in_entry k l h = in_second (is_within c 4 k) (is_within e 8 k) (nat_lt k t) (inside e 8 k l h)

  pub in_rest : (k : ℕ) → e + 8 ≤ k → k < t → holds k ≡ true
  in_rest k l h = yes (is_within c 4 k) (is_within e 8 k) (nat_lt k t) (after c 4 k (omega (arith, l, checksum_first))) (after e 8 k l) (lt-ltb k t h)

  in_table : (k : ℕ) → t ≤ k → holds k ≡ false
  in_table k l = in_third (is_within c 4 k) (is_within e 8 k) (nat_lt k t) (le-ltb k t l)

  parts : (octets : List ℕ) → t ≤ length octets → octets_where holds 0 octets
      ≡ slice_range octets 0 c ++ (slice_range octets (c + 4) e ++ slice_range octets (e + 8) t)
  parts octets within =
      let n : ℕ = length octets in
      let head : List ℕ = slice_range octets 0 c in
      let middle : List ℕ = slice_range octets (c + 4) e in
      let rest : List ℕ = slice_range octets (e + 8) t in
      let third = kept holds octets (e + 8) t entry_first within in_rest
      ∙ ap (λ (xs : List ℕ). rest ++ xs) (skipped holds octets t n within (omega arith) (λ k l h. in_table k l) ∙ ended holds octets)
      ∙ append-nil rest in
      let second = kept holds octets (c + 4) e checksum_first (omega (arith, entry_first, within)) in_middle
      ∙ ap (λ (xs : List ℕ). middle ++ xs) (skipped holds octets e (e + 8) (omega arith) (omega (arith, entry_first, within)) in_entry ∙ third) in
      kept holds octets 0 c (omega arith) (omega (arith, checksum_first, entry_first, within)) (λ k l h. in_head k h)
      ∙ ap (λ (xs : List ℕ). head ++ xs)
      (skipped holds octets c (c + 4) (omega arith) (omega (arith, checksum_first, entry_first, within)) in_checksum ∙ second)

-- ---- images

pub far_enough : (format : PeFormat) → 96 ≤ directories_offset format
far_enough Pe32 = omega arith
far_enough Pe32Plus = omega arith

pub bound_is_parts : (octets : List ℕ) → entry_offset octets + 8 ≤ table_offset octets → table_offset octets ≤ length octets
    → bound_octets octets ≡ head_of octets ++ middle_of octets ++ rest_of octets
bound_is_parts octets behind within =
    let far = far_enough (format_of (magic_of octets)) in
    let first : checksum_offset octets + 4 ≤ entry_offset octets = omega (arith, far) in
    parts (checksum_offset octets) (entry_offset octets) (table_offset octets) first behind octets within
    ∙ sym (append_assoc (head_of octets) (middle_of octets) (rest_of octets))

pub bound_in_parts : (octets : List ℕ) → IsSignedImage octets
    → bound_octets octets ≡ head_of octets ++ middle_of octets ++ rest_of octets
bound_in_parts octets is =
    let within : table_offset octets ≤ length octets = omega (arith, is.table.last) in
    bound_is_parts octets is.table.behind within
