-- The octets of an image that its signature is about, and the parts that they are in (Windows
-- Authenticode Portable Executable Signature Format, "Calculating the PE Image Hash").
use Rattle.std.specs.Prelude.{◌≡◌, ℕ, suc, ◌+◌, Bool, not, ◌&&◌, if◌then◌else◌, nat_le, nat_lt, List, [], ◌∷◌, length, slice_range}
use Rattle.pe_core.specs.Fields.{checksum_offset, entry_offset, table_offset}

-- an offset is in a part, given by its offset and its length
abbrev pub is_within : ℕ → ℕ → ℕ → Bool
is_within start size offset = nat_le start offset && nat_lt offset (start + size)

-- an offset is neither in the checksum nor in the table's entry, and it is before the table
abbrev pub is_bound : List ℕ → ℕ → Bool
is_bound octets offset =
    not (is_within (checksum_offset octets) 4 offset)
    && (not (is_within (entry_offset octets) 8 offset) && nat_lt offset (table_offset octets))

-- the octets at offsets of which the test holds, the first octet being at the given offset
abbrev pub octets_where : (ℕ → Bool) → ℕ → List ℕ → List ℕ
octets_where holds offset [] = []
octets_where holds offset (octet ∷ octets) =
    if holds offset
    then octet ∷ octets_where holds (suc offset) octets
    else octets_where holds (suc offset) octets

-- The octets that the signature is about, in the order of the file.
abbrev pub bound_octets : List ℕ → List ℕ
bound_octets octets = octets_where (is_bound octets) 0 octets

-- the octets before the checksum
abbrev pub head_of : List ℕ → List ℕ
head_of octets = slice_range octets 0 (checksum_offset octets)

-- the octets from behind the checksum to the table's entry
abbrev pub middle_of : List ℕ → List ℕ
middle_of octets = slice_range octets (checksum_offset octets + 4) (entry_offset octets)

-- the octets from behind the table's entry to the table
abbrev pub rest_of : List ℕ → List ℕ
rest_of octets = slice_range octets (entry_offset octets + 8) (table_offset octets)

-- the table
abbrev pub table_of : List ℕ → List ℕ
table_of octets = slice_range octets (table_offset octets) (length octets)

-- Two files have the checksum, the table's entry and the table at the same offsets, and the same
-- octets before the checksum, between both and between entry and table.
pub record HaveSameParts (a b : List ℕ) : Type 0 where
  pub checksum : checksum_offset a ≡ checksum_offset b
  pub entry : entry_offset a ≡ entry_offset b
  pub table : table_offset a ≡ table_offset b
  pub head : head_of a ≡ head_of b
  pub middle : middle_of a ≡ middle_of b
  pub rest : rest_of a ≡ rest_of b
