-- When the headers of an image and the data of its sections are ahead of its certificate table, so
-- that a loader which copies them copies nothing but what was signed, the checksum and the table's
-- entry aside; and what breaks that, in order (PE Format, "COFF File Header", "Optional Header",
-- "Section Table").
use Rattle.std.specs.Prelude.{◌≡◌, ◌⊎◌, ℕ, ◌+◌, ◌*◌, ◌<◌, ◌≤◌, IsTrue, List, [], ◌∷◌}
use Rattle.der_core.specs.Rules.{Rule}
use Rattle.pe_core.specs.Bound.{is_within}
use Rattle.pe_core.specs.Fields.{u16_at, u32_at, mark_offset, header_size, header_offset, checksum_offset, entry_offset, table_offset}
use Rattle.pe_core.specs.declared.layout_error.LayoutError.{LayoutError}
use Rattle.pe_core.specs.declared.layout_error.LayoutError.TheVariants as errors

-- NumberOfSections, behind the mark's four octets and two of the COFF header
abbrev pub section_count : List ℕ → ℕ
section_count octets = u16_at octets (mark_offset octets + 6)

-- the section table is behind the optional header
abbrev pub sections_offset : List ℕ → ℕ
sections_offset octets = header_offset octets + header_size octets

-- SizeOfHeaders, in either format
abbrev pub size_of_headers : List ℕ → ℕ
size_of_headers octets = u32_at octets (header_offset octets + 60)

-- SizeOfRawData of a section, whose header has forty octets
abbrev pub raw_size : List ℕ → ℕ → ℕ
raw_size octets section = u32_at octets (sections_offset octets + 40 * section + 16)

-- PointerToRawData of a section
abbrev pub raw_offset : List ℕ → ℕ → ℕ
raw_offset octets section = u32_at octets (sections_offset octets + 40 * section + 20)

-- The section table is within the headers, and these are ahead of the certificate table.
pub record HasHeadersInside (octets : List ℕ) : Type 0 where
  pub sections : sections_offset octets + 40 * section_count octets ≤ size_of_headers octets
  pub ahead : size_of_headers octets ≤ table_offset octets

-- The raw data of a section is behind the headers and ahead of the certificate table.
pub record LiesInside (octets : List ℕ) (section : ℕ) : Type 0 where
  pub behind : size_of_headers octets ≤ raw_offset octets section
  pub ahead : raw_offset octets section + raw_size octets section ≤ table_offset octets

-- The section has no raw data, or has it there.
abbrev pub IsInside : List ℕ → ℕ → Type 0
IsInside octets section = 0 < raw_size octets section → LiesInside octets section

-- each section is inside
abbrev pub HasSectionsInside : List ℕ → Type 0
HasSectionsInside octets = (section : ℕ) → section < section_count octets → IsInside octets section

-- The headers and the sections of an image are inside.
pub record IsWhole (octets : List ℕ) : Type 0 where
  pub headers : HasHeadersInside octets
  pub sections : HasSectionsInside octets

-- an offset is in the checksum or in the table's entry
abbrev pub IsLeftOut : List ℕ → ℕ → Type 0
IsLeftOut octets offset =
    IsTrue (is_within (checksum_offset octets) 4 offset)
    ⊎ IsTrue (is_within (entry_offset octets) 8 offset)

-- an offset is in the raw data of a section
pub record IsInSection (octets : List ℕ) (section offset : ℕ) : Type 0 where
  pub counted : section < section_count octets
  pub from : raw_offset octets section ≤ offset
  pub to : offset < raw_offset octets section + raw_size octets section

-- ---- rules, by what breaks them

-- the headers are elsewhere
abbrev pub HasHeadersOutside : List ℕ → Rule LayoutError
HasHeadersOutside octets e = (HasHeadersInside octets → ⊥) × (e ≡ errors.HeadersOutside)

-- the first section that isn't inside
pub record IsFirstOutside (octets : List ℕ) (section : ℕ) : Type 0 where
  pub counted : section < section_count octets
  pub outside : IsInside octets section → ⊥
  pub first : (earlier : ℕ) → earlier < section → IsInside octets earlier

-- a section is elsewhere
abbrev pub HasSectionOutside : List ℕ → Rule LayoutError
HasSectionOutside octets e =
    (section : ℕ) × IsFirstOutside octets section × (e ≡ errors.SectionOutside section)

-- The rules for the layout of an image, in order.
abbrev pub layout_rules : List ℕ → List (Rule LayoutError)
layout_rules octets = HasHeadersOutside octets ∷ HasSectionOutside octets ∷ []
