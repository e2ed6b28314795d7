-- The entries of a certificate table (PE Format, "The Attribute Certificate Table").
use Rattle.std.specs.Prelude.{◌≡◌, ◌≢◌, ℕ, ◌-◌, ◌%◌, ◌<◌, ◌≤◌, List, [], ◌∷◌, ◌++◌, length, replicate, map}
use Rattle.std.specs.List.{AllByRecursion, concat}
use Rattle.pe_core.specs.Fields.{u32_at}

-- An entry has a header of eight octets, the first four of which are the entry's length.
pub record IsEntry (octets : List ℕ) : Type 0 where
  pub long : 8 ≤ length octets
  pub stated : u32_at octets 0 ≡ length octets

-- how many octets there are from a length on up to the next multiple of eight
abbrev pub padding_size : ℕ → ℕ
padding_size size = (8 - size % 8) % 8

-- so many zeros
abbrev pub padding : ℕ → List ℕ
padding size = replicate (padding_size size) 0

-- Entries as a table has them, so that each begins at a multiple of eight from the first octet on:
-- between two are the zeros up to there, and behind the last are so many.
abbrev pub laid_out : List (List ℕ) → ℕ → List ℕ
laid_out [] behind = replicate behind 0
laid_out (entry ∷ []) behind = entry ++ replicate behind 0
laid_out (entry ∷ (next ∷ entries)) behind =
    entry ++ padding (length entry) ++ laid_out (next ∷ entries) behind

-- The octets are entries with fewer than eight zeros behind the last.
pub record AreLaidOut (octets : List ℕ) (entries : List (List ℕ)) (behind : ℕ) : Type 0 where
  pub few : behind < 8
  pub written : octets ≡ laid_out entries behind

-- the octets are these entries
abbrev pub AreEntries : List ℕ → List (List ℕ) → Type 0
AreEntries octets entries =
    AllByRecursion IsEntry entries × ((behind : ℕ) × AreLaidOut octets entries behind)

-- the octets are some entries
abbrev pub HasEntries : List ℕ → Type 0
HasEntries octets = (entries : List (List ℕ)) × AreEntries octets entries

-- A certificate table has one entry at least.
pub record IsTable (octets : List ℕ) (entries : List (List ℕ)) : Type 0 where
  pub some : entries ≢ []
  pub are : AreEntries octets entries

-- the octets are a certificate table
abbrev pub HasTable : List ℕ → Type 0
HasTable octets = (entries : List (List ℕ)) × IsTable octets entries

-- each entry with the zeros behind it, one after another
abbrev pub written_table : List (List ℕ) → List ℕ
written_table entries = concat (map (λ entry. entry ++ padding (length entry)) entries)
