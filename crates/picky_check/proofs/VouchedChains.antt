-- Accepted certificates are vouched for.
use Rattle.std.proofs.Common.{◌≡◌, List, [], ◌∷◌, ℕ, ◌+◌, length, Option, Some, Ok, inl, inr, refl, subst}
use Rattle.asn1_types.specs.declared.generalized_time.GeneralizedTime.{GeneralizedTime}
use Rattle.sig_core.specs.declared.verdict_row.VerdictRow.{VerdictRow}
use Rattle.sig_core.specs.VerdictTable.{IsTable, verdict_of}
use Rattle.key_core.specs.Verifying.{Judge}
use Rattle.x509_core.specs.CertType.{IsOfType}
use Rattle.x509_core.specs.Chain.{IsLinkedChain, IsPath, last_of}
use Rattle.x509_core.specs.OwnedCertificate.{KeptCertificate}
use Rattle.x509_core.specs.OwnedCertificates.{AreKeptCertificates}
use Rattle.x509_core.specs.declared.cert_type.CertType.TheVariants as types
use Rattle.picky_check.specs.ChainAnswer.{IsChainAnswer, IsChainJudged, all_checks}
use Rattle.picky_check.specs.ChainHeadline.{IsVouchedChain, window_at}
use Rattle.program_frame.specs.Limits.{IsWholeFile, AreWholeFiles}
use Rattle.program_frame.specs.ReadFiles.{HandsOut, total_length}
use Rattle.picky_check.specs.Report.{parents_line}
use Rattle.program_frame.specs.Shelf.{ShelfState}
use Rattle.program_frame.specs.Sink.{Appends}
use Rattle.picky_check.specs.Words.{Chain, AsksFor}

-- the path of an accepted certificate is the one that was given
the_path : (judge : Judge) (date : GeneralizedTime) (checked : KeptCertificate) (parents : List KeptCertificate)
    → IsPath judge (all_checks date) checked (Some parents)
    → IsLinkedChain judge (window_at date) checked parents × IsOfType (last_of checked parents).elements types.Root
the_path judge date checked parents path =
    let same : path.parents ≡ parents = (let is = path.is in cc) in (
      subst (λ (ps : List KeptCertificate). IsLinkedChain judge (window_at date) checked ps) same path.linked,
      subst (λ (ps : List KeptCertificate). IsOfType (last_of checked ps).elements types.Root) same (path.rooted refl),
    )

module _ (words : List (List ℕ)) (shelf shelf_now : ShelfState) (held held_now : Option (List ℕ)) (table : List ℕ) (date : GeneralizedTime)
    (names : List (List ℕ))
    (asked : AsksFor words (Chain table date names)) (text : List ℕ) (rows : List VerdictRow) (octets : List (List ℕ))
    (table_file : IsWholeFile shelf.files table text) (certificate_files : AreWholeFiles shelf.files names octets)
    (given : HandsOut (length text + total_length octets) shelf shelf_now) (is_table : IsTable text rows) where
  of_certificates : (count : ℕ) (certificates : List KeptCertificate) → AreKeptCertificates octets certificates
      → IsChainJudged (verdict_of rows) date certificates (Ok count) → Appends held (parents_line count) held_now
      → IsVouchedChain words shelf shelf_now held held_now
  of_certificates count [] are judged written = absurd judged
  of_certificates count (checked ∷ parents) are judged written =
      let path = the_path (verdict_of rows) date checked parents (judged.1.chained refl) in record {
        table = table;
        date = date;
        names = names;
        asked = asked;
        text = text;
        rows = rows;
        octets = octets;
        checked = checked;
        parents = parents;
        table_file = table_file;
        certificate_files = certificate_files;
        given = given;
        is_table = is_table;
        are_certificates = are;
        written = subst (λ (n : ℕ). Appends held (parents_line n) held_now) judged.0 written;
        valid = judged.1.valid;
        linked = path.0;
        rooted = path.1;
      }

  pub vouched_chain : (count : ℕ) → IsChainAnswer (verdict_of rows) date octets (Ok count) → Appends held (parents_line count) held_now
      → IsVouchedChain words shelf shelf_now held held_now
  vouched_chain count (inl unread) written = absurd unread
  vouched_chain count (inr judged) written = of_certificates count judged.0 judged.1 judged.2 written
