-- What acceptance means: the line is the first of the shortest paths.
use Rattle.std.specs.Prelude.{ℕ, List, ◌+◌, length, Option}
use Rattle.sig_core.specs.declared.verdict_row.VerdictRow.{VerdictRow}
use Rattle.sig_core.specs.VerdictTable.{IsTable, verdict_of}
use Rattle.x509_core.specs.OwnedCertificate.{KeptCertificate}
use Rattle.program_frame.specs.Limits.{IsWholeFile, AreWholeFiles}
use Rattle.program_frame.specs.ReadFiles.{HandsOut, total_length}
use Rattle.program_frame.specs.Shelf.{ShelfState}
use Rattle.program_frame.specs.Sink.{Appends}
use Rattle.trust_anchors.specs.Commands.{AreGiven, IsPathOf}
use Rattle.trust_anchors.specs.FirstPath.{IsFirstPath}
use Rattle.trust_anchors.specs.PathText.{anchored_line}
use Rattle.trust_anchors.specs.Words.{AsksFor, Command}
use Rattle.trust_anchors.specs.declared.path.AnchoredPath.{AnchoredPath}

-- The words are TABLE PURPOSE DATE N A1 .. AN CERT P1 .. The octets of the files A1 .. AN, CERT and
-- P1 .. are certificates, and the text of the file TABLE is a verdict table, as far as the shelf
-- exposes its files; and exactly as many octets as these have together were handed out. By the
-- verdicts of the table the path goes from the certificate of CERT through those of the pool to one
-- of the anchors that serves PURPOSE, all of them valid at DATE; no path is shorter, and of those as
-- short it is the first. If the sink exposes its contents, exactly the line with its indices has
-- been appended.
pub record IsReportedPath (words : List (List ℕ)) (shelf shelf_now : ShelfState)
    (held held_now : Option (List ℕ)) : Type 0 where
  pub command : Command
  pub asked : AsksFor words command
  pub text : List ℕ
  pub rows : List VerdictRow
  pub octets : List (List ℕ)
  pub table_file : IsWholeFile shelf.files command.table text
  pub certificate_files : AreWholeFiles shelf.files command.certificates octets
  pub handed_out : HandsOut (length text + total_length octets) shelf shelf_now
  pub is_table : IsTable text rows
  pub anchors : List KeptCertificate
  pub checked : KeptCertificate
  pub pool : List KeptCertificate
  pub given : AreGiven command.number octets anchors checked pool
  pub path : AnchoredPath
  pub first : IsFirstPath (IsPathOf (verdict_of rows) command anchors checked pool) path
  pub written : Appends held (anchored_line path) held_now
