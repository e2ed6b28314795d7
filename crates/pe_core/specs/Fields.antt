-- The numbers of a file, the low octet first, and the offsets of the fields that delimit what is
-- signed (PE Format, "MS-DOS Stub", "Signature", "COFF File Header", "Optional Header").
use Rattle.std.specs.Prelude.{ℕ, ◌+◌, ◌==◌, if◌then◌else◌, List, slice_range}
use Rattle.std.specs.Int.{w16, w32, from_le_bytes}
use Rattle.pe_core.specs.declared.format.PeFormat.{PeFormat}
use Rattle.pe_core.specs.declared.format.PeFormat.TheVariants.{Pe32, Pe32Plus}

-- the number of two octets at an offset
unfoldable pub u16_at : List ℕ → ℕ → ℕ
u16_at octets offset = from_le_bytes w16 (slice_range octets offset (offset + 2))

-- the number of four octets at an offset
unfoldable pub u32_at : List ℕ → ℕ → ℕ
u32_at octets offset = from_le_bytes w32 (slice_range octets offset (offset + 4))

-- e_lfanew of the MS-DOS header: the offset of the PE mark
abbrev pub mark_offset : List ℕ → ℕ
mark_offset octets = u32_at octets 60

-- SizeOfOptionalHeader, behind the mark's four octets and sixteen of the COFF header
abbrev pub header_size : List ℕ → ℕ
header_size octets = u16_at octets (mark_offset octets + 20)

-- the optional header is behind the mark and the twenty octets of the COFF header
abbrev pub header_offset : List ℕ → ℕ
header_offset octets = mark_offset octets + 24

-- Magic, the first field of the optional header
abbrev pub magic_of : List ℕ → ℕ
magic_of octets = u16_at octets (header_offset octets)

-- the format by the magic number, PE32+ if it is that of no format
abbrev pub format_of : ℕ → PeFormat
format_of magic = if magic == 0x010b then Pe32 else Pe32Plus

-- CheckSum, in either format
abbrev pub checksum_offset : List ℕ → ℕ
checksum_offset octets = header_offset octets + 64

-- NumberOfRvaAndSizes, in the optional header
abbrev pub count_offset : PeFormat → ℕ
count_offset Pe32 = 92
count_offset Pe32Plus = 108

-- the data directories, in the optional header
abbrev pub directories_offset : PeFormat → ℕ
directories_offset Pe32 = 96
directories_offset Pe32Plus = 112

-- the end of the certificate table's entry, in the optional header: the fifth, of eight octets each
abbrev pub entry_end : PeFormat → ℕ
entry_end format = directories_offset format + 40

-- how many data directories there are
abbrev pub directory_count : List ℕ → ℕ
directory_count octets =
    u32_at octets (header_offset octets + count_offset (format_of (magic_of octets)))

-- the certificate table's entry
abbrev pub entry_offset : List ℕ → ℕ
entry_offset octets = header_offset octets + directories_offset (format_of (magic_of octets)) + 32

-- the entry's first number, for this table an offset in the file
abbrev pub table_offset : List ℕ → ℕ
table_offset octets = u32_at octets (entry_offset octets)

-- the entry's second number
abbrev pub table_size : List ℕ → ℕ
table_size octets = u32_at octets (entry_offset octets + 4)
