-- A report of an answer is a report of each answer, and an acceptance reports the first path.
use Rattle.std.proofs.Common.{◌≡◌, ℕ, ◌≤◌, List, [], ◌∷◌, length, map, Option, Some, None, MatchOption, Ok, Err, sym, ap, subst, ◌∙◌, arith}
use Rattle.std.proofs.lemmas.List.Sums.{sum_by-cons}
use Rattle.key_core.specs.Verifying.{Judge}
use Rattle.sig_core.specs.declared.verdict_row.VerdictRow.{VerdictRow}
use Rattle.sig_core.specs.VerdictTable.{IsTable, verdict_of}
use Rattle.x509_core.specs.OwnedCertificate.{KeptCertificate}
use Rattle.program_frame.specs.declared.report.Report.{Report}
use Rattle.program_frame.specs.declared.stop.Stop.{Stop}
use Rattle.program_frame.specs.declared.stop.Stop.TheVariants as stop
use Rattle.program_frame.specs.Limits.{AreWholeFiles}
use Rattle.program_frame.specs.Commands.{Line}
use Rattle.program_frame.specs.ReadFiles.{HandsOut, total_length}
use Rattle.program_frame.specs.Run.{IsRunAnswer}
use Rattle.program_frame.specs.Shelf.{ShelfState}
use Rattle.program_frame.specs.Sink.{Appends}
use Rattle.trust_anchors.specs.AnchoredPath.{HasNoPath, IsAnchoredPath}
use Rattle.trust_anchors.specs.Commands.{AreGiven, IsAnswerTo, IsSearchResult, certificates_in, code_anchor, program, table_in}
use Rattle.trust_anchors.specs.Commands.{report_line, reporting, status_of}
use Rattle.trust_anchors.specs.FirstPath.{IsFirstPath}
use Rattle.program_frame.specs.Reports.{IsReportOf, Reports}
use Rattle.trust_anchors.specs.Reported.{IsReportedPath}
use Rattle.trust_anchors.specs.Words.{AsksFor, Command, files_of}
use Rattle.trust_anchors.specs.declared.anchor.Anchor.{Anchor}
use Rattle.trust_anchors.specs.declared.path.AnchoredPath.{AnchoredPath}
use Rattle.trust_anchors.specs.declared.report.Answer.{Answer}
use Rattle.trust_anchors.specs.declared.report.Answer.TheVariants.{Anchored, NoPath, Unread}
use Rattle.trust_anchors.proofs.Certificates.{one_answer}

-- that nothing is found means that there is no path
pub none_found : (IsOne : AnchoredPath → Type 0) (found : Option AnchoredPath) → found ≡ None → MatchOption found (HasNoPath IsOne) (IsFirstPath IsOne)
    → HasNoPath IsOne
none_found IsOne None is h = h
none_found IsOne (Some path) is h = absurd cc

-- ---- reports

pub low : (answer : Answer) → status_of answer ≤ 1
low (Anchored path) = omega arith
low NoPath = omega arith
low Unread = omega arith

-- without a report memory ran out
pub memory_reports : (Is : Answer → Type 0) (s : Stop) → s ≡ stop.Memory → Reports reporting Is (Err s)
memory_reports Is s is = record { reported = tt; stopped = is; only = λ other also none. is }

pub answer_reports : (judge : Judge) (command : Command) (octets : List (List ℕ)) (answer : Answer) (report : Report) → IsAnswerTo judge command octets answer
    → IsReportOf reporting answer report
    → Reports reporting (IsAnswerTo judge command octets) (Ok report)
answer_reports judge command octets answer report is h = record {
  reported = (answer, is, h);
  stopped = tt;
  only = λ other also none. subst (λ (a : Answer). IsReportOf reporting a report) (one_answer judge command octets answer other is also) h;
}

-- what is found for the certificates of a command is its answer
pub found_answer : (judge : Judge) (command : Command) (read octets : List (List ℕ)) (store : List Anchor) (checked : KeptCertificate)
    (pool : List KeptCertificate) (answer : Answer)
    → read ≡ octets → (anchors : List KeptCertificate) × (store ≡ map code_anchor anchors) × AreGiven command.number read anchors checked pool
    → IsSearchResult (IsAnchoredPath judge command.date checked pool store command.purpose) answer → IsAnswerTo judge command octets answer
found_answer judge command read octets store checked pool Unread same given h = absurd h
found_answer judge command read octets store checked pool (Anchored path) same given h = record {
  anchors = given.0;
  checked = checked;
  pool = pool;
  given = subst (λ (os : List (List ℕ)). AreGiven command.number os given.0 checked pool) same given.2;
  found = subst (λ (s : List Anchor). IsSearchResult (IsAnchoredPath judge command.date checked pool s command.purpose) (Anchored path)) given.1 h;
}
found_answer judge command read octets store checked pool NoPath same given h = record {
  anchors = given.0;
  checked = checked;
  pool = pool;
  given = subst (λ (os : List (List ℕ)). AreGiven command.number os given.0 checked pool) same given.2;
  found = subst (λ (s : List Anchor). IsSearchResult (IsAnchoredPath judge command.date checked pool s command.purpose) NoPath) given.1 h;
}

-- ---- acceptance

module _ (words : List (List ℕ)) (shelf shelf_now : ShelfState) (held held_now : Option (List ℕ)) where
  of_path : (command : Command) (contents : List (List ℕ)) (rows : List VerdictRow) (answer : Answer) → AsksFor words command
      → AreWholeFiles shelf.files (files_of command) contents
      → HandsOut (total_length contents) shelf shelf_now → IsTable (table_in contents) rows
      → IsAnswerTo (verdict_of rows) command (certificates_in contents) answer
      → status_of answer ≡ 0 → Appends held (report_line answer) held_now → IsReportedPath words shelf shelf_now held held_now
  of_path command [] rows answer asked are given is_table is_answer zero written = absurd are
  of_path command (text ∷ octets) rows NoPath asked are given is_table is_answer zero written = absurd (omega arith)
  of_path command (text ∷ octets) rows Unread asked are given is_table is_answer zero written = absurd (omega arith)
  of_path command (text ∷ octets) rows (Anchored path) asked are given is_table is_answer zero written = record {
    command = command;
    asked = asked;
    text = text;
    rows = rows;
    octets = octets;
    table_file = are.0;
    certificate_files = are.1;
    handed_out = subst (λ (n : ℕ). HandsOut n shelf shelf_now) (sum_by-cons (λ (o : List ℕ). length o) text octets) given;
    is_table = is_table;
    anchors = is_answer.anchors;
    checked = is_answer.checked;
    pool = is_answer.pool;
    given = is_answer.given;
    path = path;
    first = is_answer.found;
    written = written;
  }

  pub reported_path : (line : Line) → IsRunAnswer program words shelf shelf_now line → line.status ≡ 0 → Appends held line.text held_now
      → IsReportedPath words shelf shelf_now held held_now
  reported_path line h zero written =
      let read = h.2 in
      let returned = read.is_answered.is_answer in
      of_path h.0 read.is_answered.contents returned.rows returned.answer h.1 read.is_answered.are_files read.given returned.is_table returned.is_answer
      (sym (ap (λ (l : Line). l.status) returned.line_is) ∙ zero)
      (subst (λ (text : List ℕ). Appends held text held_now) (ap (λ (l : Line). l.text) returned.line_is) written)
