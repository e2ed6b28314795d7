-- When a file is an image with a certificate table at its end, and what breaks that, in order (PE
-- Format; Windows Authenticode Portable Executable Signature Format).
use Rattle.std.specs.Prelude.{◌≡◌, ◌≢◌, ◌⊎◌, ℕ, ◌+◌, ◌≤◌, List, [], ◌∷◌, length}
use Rattle.der_core.specs.Rules.{Rule}
use Rattle.pe_core.specs.Fields.{u16_at, u32_at, mark_offset, header_size, header_offset, magic_of}
use Rattle.pe_core.specs.Fields.{format_of, entry_end, directory_count, entry_offset, table_offset, table_size}
use Rattle.pe_core.specs.declared.error.PeError.{PeError}
use Rattle.pe_core.specs.declared.error.PeError.TheVariants as errors

-- The MS-DOS header has 64 octets and begins with MZ.
pub record HasDosHeader (octets : List ℕ) : Type 0 where
  pub whole : 64 ≤ length octets
  pub marked : u16_at octets 0 ≡ 0x5a4d

-- The PE mark is PE and two zeros, and the file has the first field of the optional header.
pub record HasMark (octets : List ℕ) : Type 0 where
  pub whole : header_offset octets + 2 ≤ length octets
  pub marked : u32_at octets (mark_offset octets) ≡ 0x4550

-- the magic number of PE32 or that of PE32+
abbrev pub IsMagic : ℕ → Type 0
IsMagic magic = (magic ≡ 0x010b) ⊎ (magic ≡ 0x020b)

-- The entry of the certificate table is within the optional header and within the file, and there
-- are five directories or more.
pub record HasDirectory (octets : List ℕ) : Type 0 where
  pub in_header : entry_end (format_of (magic_of octets)) ≤ header_size octets
  pub in_file : entry_offset octets + 8 ≤ length octets
  pub counted : 5 ≤ directory_count octets

-- The certificate table is behind its entry, and the end of the file.
pub record EndsWithTable (octets : List ℕ) : Type 0 where
  pub behind : entry_offset octets + 8 ≤ table_offset octets
  pub last : table_offset octets + table_size octets ≡ length octets

-- The file is an image with a certificate table at its end.
pub record IsSignedImage (octets : List ℕ) : Type 0 where
  pub dos : HasDosHeader octets
  pub mark : HasMark octets
  pub magic : IsMagic (magic_of octets)
  pub directory : HasDirectory octets
  pub filled : table_size octets ≢ 0
  pub table : EndsWithTable octets

-- ---- rules, by what breaks them

-- there is no MS-DOS header
abbrev pub LacksDosHeader : List ℕ → Rule PeError
LacksDosHeader octets e = (HasDosHeader octets → ⊥) × (e ≡ errors.NotMz)

-- there is no PE mark
abbrev pub LacksMark : List ℕ → Rule PeError
LacksMark octets e = (HasMark octets → ⊥) × (e ≡ errors.NotPe)

-- the magic number is that of no format
abbrev pub HasOtherMagic : List ℕ → Rule PeError
HasOtherMagic octets e =
    (IsMagic (magic_of octets) → ⊥) × (e ≡ errors.WrongMagic (magic_of octets))

-- there is no entry of the certificate table
abbrev pub LacksDirectory : List ℕ → Rule PeError
LacksDirectory octets e = (HasDirectory octets → ⊥) × (e ≡ errors.NoDirectory)

-- the certificate table is empty
abbrev pub LacksTable : List ℕ → Rule PeError
LacksTable octets e = (table_size octets ≡ 0) × (e ≡ errors.NoTable)

-- the certificate table is elsewhere
abbrev pub HasTableElsewhere : List ℕ → Rule PeError
HasTableElsewhere octets e =
    (EndsWithTable octets → ⊥)
    × (e ≡ errors.TableOutside (table_offset octets) (table_size octets) (length octets))

-- the rules for the table, in order
abbrev pub table_rules : List ℕ → List (Rule PeError)
table_rules octets = LacksTable octets ∷ HasTableElsewhere octets ∷ []

-- The rules for an image, in order.
abbrev pub image_rules : List ℕ → List (Rule PeError)
image_rules octets =
    LacksDosHeader octets ∷ LacksMark octets ∷ HasOtherMagic octets ∷ LacksDirectory octets ∷
    table_rules octets
