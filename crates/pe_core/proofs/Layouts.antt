-- The rules for layouts: one answer, and what a whole image's signature is about.
use Rattle.std.proofs.Common.{◌≡◌, ◌⊎◌, inl, inr, ℕ, ◌+◌, ◌<◌, ◌≤◌, Bool, true, false, not, ◌&&◌, nat_lt, List, refl, sym, ap, ◌∙◌, arith}
use Rattle.std.specs.Prelude.{IsTrue}
use Rattle.std.proofs.lemmas.Bool.{lt-ltb, cases_lt}
use Rattle.der_core.specs.Rules.{IsMet, IsFirstBroken}
use Rattle.pe_core.specs.Bound.{is_within, is_bound}
use Rattle.pe_core.specs.Fields.{checksum_offset, entry_offset, table_offset, format_of, magic_of}
use Rattle.pe_core.specs.Image.{IsSignedImage}
use Rattle.pe_core.specs.Layout.{HasSectionOutside, IsFirstOutside, IsInSection, LiesInside, IsLeftOut, IsWhole, layout_rules, size_of_headers}
use Rattle.pe_core.specs.declared.layout_error.LayoutError.{LayoutError}
use Rattle.pe_core.specs.declared.layout_error.LayoutError.TheVariants as errors
use Rattle.pe_core.proofs.Parts.{in_rest, far_enough}

-- ---- the rules

sections_whole : (octets : List ℕ) (e : LayoutError) → IsWhole octets
    → HasSectionOutside octets e ⊎ (IsMet (HasSectionOutside octets) × ⊥) → ⊥
sections_whole octets e whole (inl s) = s.1.outside (whole.sections s.0 s.1.counted)
sections_whole octets e whole (inr none) = none.1

pub unbroken : (octets : List ℕ) (e : LayoutError) → IsWhole octets → IsFirstBroken (layout_rules octets) e → ⊥
unbroken octets e whole (inl h) = h.0 whole.headers
unbroken octets e whole (inr later) = sections_whole octets e whole later.1

least : (octets : List ℕ) (m n : ℕ) → IsFirstOutside octets m → IsFirstOutside octets n → (m < n) ⊎ (n ≤ m) → n ≤ m
least octets m n a b (inl less) = absurd (a.outside (b.first m less))
least octets m n a b (inr more) = more

same_section : (octets : List ℕ) (m n : ℕ) → IsFirstOutside octets m → IsFirstOutside octets n → m ≡ n
same_section octets m n a b =
    omega (arith, least octets m n a b (cases_lt m n), least octets n m b a (cases_lt n m))

sections_once : (octets : List ℕ) (a b : LayoutError) → HasSectionOutside octets a ⊎ (IsMet (HasSectionOutside octets) × ⊥)
    → HasSectionOutside octets b ⊎ (IsMet (HasSectionOutside octets) × ⊥) → a ≡ b
sections_once octets a b (inl x) (inl y) =
    x.2 ∙ ap (λ (n : ℕ). errors.SectionOutside n) (same_section octets x.0 y.0 x.1 y.1) ∙ sym y.2
sections_once octets a b (inl x) (inr y) = absurd y.1
sections_once octets a b (inr x) y = absurd x.1

pub once : (octets : List ℕ) (a b : LayoutError) → IsFirstBroken (layout_rules octets) a → IsFirstBroken (layout_rules octets) b → a ≡ b
once octets a b (inl x) (inl y) = x.1 ∙ sym y.1
once octets a b (inl x) (inr y) = absurd (y.0 a x)
once octets a b (inr x) (inl y) = absurd (x.0 b y)
once octets a b (inr x) (inr y) = sections_once octets a b x.1 y.1

-- ---- what is bound

by_parts : (a b d : Bool) → d ≡ true → ((not a && (not b && d)) ≡ true) ⊎ ((a ≡ true) ⊎ (b ≡ true))
by_parts true b d is = inr (inl refl)
by_parts false true d is = inr (inr refl)
by_parts false false d is = inl is

pub headers_bound : (octets : List ℕ) → IsSignedImage octets → IsWhole octets → (offset : ℕ) → offset < size_of_headers octets
    → IsTrue (is_bound octets offset) ⊎ IsLeftOut octets offset
headers_bound octets image whole offset less =
    let ahead : offset < table_offset octets = omega (arith, less, whole.headers.ahead) in
    by_parts (is_within (checksum_offset octets) 4 offset) (is_within (entry_offset octets) 8 offset) (nat_lt offset (table_offset octets))
    (lt-ltb offset (table_offset octets) ahead)

pub section_bound : (octets : List ℕ) → IsSignedImage octets → IsWhole octets → (section offset : ℕ) → IsInSection octets section offset
    → IsTrue (is_bound octets offset)
section_bound octets image whole section offset there =
    let inside : LiesInside octets section = whole.sections section there.counted (omega (arith, there.from, there.to)) in
    let far = far_enough (format_of (magic_of octets)) in
    let checksum_first : checksum_offset octets + 4 ≤ entry_offset octets = omega (arith, far) in
    let low : entry_offset octets + 8 ≤ offset =
    omega (arith, image.directory.in_header, whole.headers.sections, inside.behind, there.from) in
    let high : offset < table_offset octets = omega (arith, inside.ahead, there.to) in
    in_rest (checksum_offset octets) (entry_offset octets) (table_offset octets) checksum_first image.table.behind offset low high
