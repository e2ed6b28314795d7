-- The digest of a program for which its signature is checked (Windows Authenticode Portable
-- Executable Signature Format, "Calculating the PE Image Hash").
use Rattle.std.specs.Prelude.{◌≡◌, ℕ, List, Option, Some, None}
use Rattle.authenticode_core.specs.Basic.{HasSignedData}
use Rattle.authenticode_core.specs.SignedFields.{HasIndirectData, IndirectData}
use Rattle.authenticode_core.specs.SigningRules.{NamesDigest}
use Rattle.cms_types.specs.SignedDataElements.{SignedDataElements}
use Rattle.sig_core.specs.Digest.{digest_of}
use Rattle.sig_core.specs.declared.hash.HashAlgorithm.{HashAlgorithm}
use Rattle.pe_core.specs.Bound.{bound_octets, table_of}

-- The certificate table begins with signed data whose content is indirect data with this digest
-- algorithm and this digest of a file.
pub record StatesDigest (table : List ℕ) (algorithm : HashAlgorithm)
    (digest : List ℕ) : Type 0 where
  pub f : SignedDataElements
  pub d : IndirectData
  pub signed : HasSignedData table f
  pub indirect : HasIndirectData f d
  pub named : NamesDigest d.algorithm algorithm
  pub stated : d.digest ≡ digest

-- the table begins with signed data that states a digest by this algorithm
abbrev pub NamesImageDigest : List ℕ → HashAlgorithm → Type 0
NamesImageDigest table algorithm = (digest : List ℕ) × StatesDigest table algorithm digest

-- The digest of the bound octets by the algorithm that the signature names; none if it names none.
abbrev pub IsImageHash : List ℕ → Option (List ℕ) → Type 0
IsImageHash octets None =
    (algorithm : HashAlgorithm) → NamesImageDigest (table_of octets) algorithm → ⊥
IsImageHash octets (Some hash) =
    (algorithm : HashAlgorithm) × NamesImageDigest (table_of octets) algorithm
    × (hash ≡ digest_of algorithm (bound_octets octets))

-- What the signature states is the digest of the octets of the program outside the checksum, the
-- certificate table's entry and the table.
abbrev pub BindsImage : List ℕ → Type 0
BindsImage octets =
    (algorithm : HashAlgorithm)
    × StatesDigest (table_of octets) algorithm (digest_of algorithm (bound_octets octets))
