-- A register after the certificates of lines were issued.
use Rattle.std.specs.Prelude.{◌≡◌, ℕ, List, Some}
use Rattle.std.specs.List.{slice_get}
use Rattle.ca_register.specs.Lines.{Line}
use Rattle.x509_core.specs.OwnedCertificate.{KeptCertificate}
use Rattle.ca_register.specs.LineCertificates.{AreForLines}
use Rattle.ca_register.specs.LineEntries.{AreIssuable, entries_of}
use Rattle.ca_register.specs.declared.entry.Entry.{Entry}

-- The entries and the certificates of a register are those of the lines, each of which was issued.
pub record IsFilled (lines : List Line) (entries : List Entry)
    (certificates : List KeptCertificate) : Type 0 where
  pub recorded : entries ≡ entries_of lines
  pub issuable : AreIssuable lines
  pub each : AreForLines lines certificates

-- if there is a line at this index, its key has this number
abbrev pub IsKeyAt : List Line → (place key : ℕ) → Type 0
IsKeyAt lines place key = (line : Line) → slice_get lines place ≡ Some line → key ≡ line.key
