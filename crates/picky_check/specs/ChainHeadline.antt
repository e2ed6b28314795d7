-- Acceptance means vouched for: a certificate with its parents.
use Rattle.std.specs.Prelude.{List, ◌∷◌, ◌+◌, length, ℕ, Option, true}
use Rattle.asn1_types.specs.declared.generalized_time.GeneralizedTime.{GeneralizedTime}
use Rattle.sig_core.specs.declared.verdict_row.VerdictRow.{VerdictRow}
use Rattle.sig_core.specs.VerdictTable.{IsTable, verdict_of}
use Rattle.x509_core.specs.CertType.{IsOfType}
use Rattle.x509_core.specs.Chain.{IsLinkedChain, last_of}
use Rattle.x509_core.specs.OwnedCertificate.{KeptCertificate}
use Rattle.x509_core.specs.Window.{IsWithinWindow}
use Rattle.x509_core.specs.declared.cert_type.CertType.TheVariants as types
use Rattle.x509_core.specs.declared.window.DateCheck.TheVariants as dates
use Rattle.x509_core.specs.declared.window.Window.{Window}
use Rattle.x509_core.specs.OwnedCertificates.{AreKeptCertificates}
use Rattle.program_frame.specs.Limits.{IsWholeFile, AreWholeFiles}
use Rattle.picky_check.specs.Report.{parents_line}
use Rattle.program_frame.specs.ReadFiles.{HandsOut, total_length}
use Rattle.program_frame.specs.Shelf.{ShelfState}
use Rattle.program_frame.specs.Sink.{Appends}
use Rattle.picky_check.specs.Words.{Chain, AsksFor}

-- a certificate must be valid at this moment: already, and still
abbrev pub window_at : GeneralizedTime → Window
window_at date = record { date = dates.Exact date; not_before = true; not_after = true }

-- The words are chain TABLE DATE CERT .. The octets of the files CERT are certificates, and the
-- text of the file TABLE is a verdict table, as far as the shelf exposes its files; and exactly as
-- many octets as these have together were handed out. The first certificate is valid at DATE. Each
-- of the others is, and may have issued the one before it: it is a CA certificate, its path length
-- allows those between, names and key identifiers agree, and the table accepts the signature over
-- the octets in the file. The last is a root. If the sink exposes its contents, exactly the line
-- with the number of these others has been appended.
pub record IsVouchedChain (words : List (List ℕ)) (shelf shelf_now : ShelfState)
    (held held_now : Option (List ℕ)) : Type 0 where
  pub table : List ℕ
  pub date : GeneralizedTime
  pub names : List (List ℕ)
  pub asked : AsksFor words (Chain table date names)
  pub text : List ℕ
  pub rows : List VerdictRow
  pub octets : List (List ℕ)
  pub checked : KeptCertificate
  pub parents : List KeptCertificate
  pub table_file : IsWholeFile shelf.files table text
  pub certificate_files : AreWholeFiles shelf.files names octets
  pub given : HandsOut (length text + total_length octets) shelf shelf_now
  pub is_table : IsTable text rows
  pub are_certificates : AreKeptCertificates octets (checked ∷ parents)
  pub written : Appends held (parents_line (length parents)) held_now
  pub valid : IsWithinWindow (window_at date) checked.elements
  pub linked : IsLinkedChain (verdict_of rows) (window_at date) checked parents
  pub rooted : IsOfType (last_of checked parents).elements types.Root
