-- The octets that a signature is about fix where the parts of an image are, and what is in them.
use Rattle.std.proofs.Common.{◌≡◌, ℕ, ◌+◌, ◌-◌, ◌≤◌, List, ◌++◌, length, take, drop, slice_range, true, sym, ap, ◌∙◌, arith, length-append}
use Rattle.std.proofs.Common.{length-take, length-drop, append_assoc}
use Rattle.std.proofs.lemmas.List.{take-append-drop, take-append-le, drop-append-le}
use Rattle.std.proofs.Math.Seq.{take-append_seam, drop-append_seam}
use Rattle.std.specs.Int.{w16, w32, from_le_bytes}
use Rattle.pe_core.specs.Bound.{bound_octets, head_of, middle_of, rest_of, HaveSameParts}
use Rattle.pe_core.specs.Fields.{u16_at, u32_at, mark_offset, header_offset, checksum_offset, entry_offset, table_offset, magic_of, format_of}
use Rattle.pe_core.specs.Fields.{directories_offset}
use Rattle.pe_core.specs.Image.{IsSignedImage}
use Rattle.pe_core.proofs.Parts.{bound_in_parts, far_enough, length_of}

-- ---- the first octets

front_of : (xs ys : List ℕ) (i j : ℕ) → i ≤ j → j ≤ length xs → slice_range (xs ++ ys) i j ≡ slice_range xs i j
front_of xs ys i j low high =
    let left : j - i ≤ length (drop i xs) = omega (arith, low, high, length-drop i xs) in
    ap (take (j - i)) (drop-append-le i xs ys (omega (arith, low, high))) ∙ take-append-le (j - i) (drop i xs) ys left

module _ (octets others : List ℕ) (c : ℕ) (within : c ≤ length octets) where
  same_range : (i j : ℕ) → i ≤ j → j ≤ c → slice_range octets i j ≡ slice_range (take c octets ++ others) i j
  same_range i j low high =
      let whole : List ℕ = take c octets in
      let long : j ≤ length whole = omega (arith, high, within, length-take c octets) in
      ap (λ (o : List ℕ). slice_range o i j) (sym (take-append-drop c octets))
      ∙ front_of whole (drop c octets) i j low long ∙ sym (front_of whole others i j low long)

  same_u16 : (offset : ℕ) → offset + 2 ≤ c → u16_at octets offset ≡ u16_at (take c octets ++ others) offset
  unfolding u16_at
  same_u16 offset high = ap (from_le_bytes w16) (same_range offset (offset + 2) (omega arith) high)

  same_u32 : (offset : ℕ) → offset + 4 ≤ c → u32_at octets offset ≡ u32_at (take c octets ++ others) offset
  unfolding u32_at
  same_u32 offset high = ap (from_le_bytes w32) (same_range offset (offset + 4) (omega arith) high)

-- ---- one image

entry_far : (octets : List ℕ) → checksum_offset octets + 4 ≤ entry_offset octets
entry_far octets = let far = far_enough (format_of (magic_of octets)) in omega (arith, far)

module _ (octets : List ℕ) (image : IsSignedImage octets) where
  abbrev others : List ℕ
  others = middle_of octets ++ rest_of octets

  table_within : table_offset octets ≤ length octets
  table_within = omega (arith, image.table.last)

  checksum_within : checksum_offset octets ≤ length octets
  checksum_within = omega (arith, entry_far octets, image.table.behind, table_within)

  bound_is : bound_octets octets ≡ head_of octets ++ others
  bound_is = bound_in_parts octets image ∙ append_assoc (head_of octets) (middle_of octets) (rest_of octets)

  bound_taken : bound_octets octets ≡ take (checksum_offset octets) octets ++ others
  bound_taken =
      let start : checksum_offset octets - 0 ≡ checksum_offset octets = omega arith in
      bound_is ∙ ap (λ (n : ℕ). take n octets ++ others) start

  mark_is : mark_offset octets ≡ u32_at (bound_octets octets) 60
  mark_is =
      same_u32 octets others (checksum_offset octets) checksum_within 60 (omega arith)
      ∙ ap (λ (o : List ℕ). u32_at o 60) (sym bound_taken)

  magic_is : magic_of octets ≡ u16_at (bound_octets octets) (header_offset octets)
  magic_is =
      same_u16 octets others (checksum_offset octets) checksum_within (header_offset octets) (omega arith)
      ∙ ap (λ (o : List ℕ). u16_at o (header_offset octets)) (sym bound_taken)

  head_long : length (head_of octets) ≡ checksum_offset octets
  head_long = omega (arith, length_of (λ _. true) octets 0 (checksum_offset octets) (omega arith) checksum_within)

  middle_long : checksum_offset octets + 4 + length (middle_of octets) ≡ entry_offset octets
  middle_long =
      length_of (λ _. true) octets (checksum_offset octets + 4) (entry_offset octets) (entry_far octets)
      (omega (arith, image.table.behind, table_within))

  rest_long : entry_offset octets + 8 + length (rest_of octets) ≡ table_offset octets
  rest_long = length_of (λ _. true) octets (entry_offset octets + 8) (table_offset octets) image.table.behind table_within

  bound_long : length (bound_octets octets) + 12 ≡ table_offset octets
  bound_long =
      let first = length-append (head_of octets) others in
      let second = length-append (middle_of octets) (rest_of octets) in
      omega (arith, ap length bound_is, first, second, head_long, middle_long, rest_long)

-- ---- two images

halves : (xs ys us vs : List ℕ) → length xs ≡ length us → xs ++ ys ≡ us ++ vs → (xs ≡ us) × (ys ≡ vs)
halves xs ys us vs long same = (
  sym (take-append_seam xs ys) ∙ ap (take (length xs)) same ∙ ap (λ (n : ℕ). take n (us ++ vs)) long ∙ take-append_seam us vs,
  sym (drop-append_seam xs ys) ∙ ap (drop (length xs)) same ∙ ap (λ (n : ℕ). drop n (us ++ vs)) long ∙ drop-append_seam us vs,
)

module _ (a b : List ℕ) (first : IsSignedImage a) (second : IsSignedImage b) (same : bound_octets a ≡ bound_octets b) where
  same_mark : mark_offset a ≡ mark_offset b
  same_mark = mark_is a first ∙ ap (λ (o : List ℕ). u32_at o 60) same ∙ sym (mark_is b second)

  same_header : header_offset a ≡ header_offset b
  same_header = ap (λ (n : ℕ). n + 24) same_mark

  same_checksum : checksum_offset a ≡ checksum_offset b
  same_checksum = ap (λ (n : ℕ). n + 64) same_header

  same_magic : magic_of a ≡ magic_of b
  same_magic =
      magic_is a first ∙ ap (λ (o : List ℕ). u16_at o (header_offset a)) same
      ∙ ap (u16_at (bound_octets b)) same_header ∙ sym (magic_is b second)

  same_entry : entry_offset a ≡ entry_offset b
  same_entry =
      ap (λ (n : ℕ). n + directories_offset (format_of (magic_of a)) + 32) same_header
      ∙ ap (λ (m : ℕ). header_offset b + directories_offset (format_of m) + 32) same_magic

  same_table : table_offset a ≡ table_offset b
  same_table = sym (bound_long a first) ∙ ap (λ (o : List ℕ). length o + 12) same ∙ bound_long b second

  heads : (head_of a ≡ head_of b) × (middle_of a ++ rest_of a ≡ middle_of b ++ rest_of b)
  heads =
      halves (head_of a) (others a first) (head_of b) (others b second) (head_long a first ∙ same_checksum ∙ sym (head_long b second))
      (sym (bound_is a first) ∙ same ∙ bound_is b second)

  middles : (middle_of a ≡ middle_of b) × (rest_of a ≡ rest_of b)
  middles =
      halves (middle_of a) (rest_of a) (middle_of b) (rest_of b)
      (omega (arith, middle_long a first, middle_long b second, same_checksum, same_entry)) heads.1

  pub same_parts : HaveSameParts a b
  same_parts = record {
    checksum = same_checksum;
    entry = same_entry;
    table = same_table;
    head = heads.0;
    middle = middles.0;
    rest = middles.1;
  }
