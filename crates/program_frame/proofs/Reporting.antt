-- The report of an answer is the report on a command's files.
use Rattle.std.proofs.Common.{◌≡◌, ◌⊎◌, ◌≤◌, ℕ, List, Result, Ok, Err, IfOk, IfErr, inl, inr, refl, sym, ap, subst, ◌∙◌}
use Rattle.std.proofs.lemmas.Result.{IfOk-weaker}
use Rattle.sig_core.specs.VerdictTable.{IsCause, IsFirstBadLine, IsTable, verdict_of}
use Rattle.sig_core.specs.declared.verdict_row.VerdictRow.{VerdictRow}
use Rattle.sig_core.specs.declared.verdict_table.TableError.{TableError}
use Rattle.sig_core.specs.declared.verdict_table.TableError.TheVariants as table
use Rattle.sig_core.proofs.Tables.{no_bad_line, table_once}
use Rattle.program_frame.specs.Answering.{GivesLine, GivesStop, IsReport, StopsForText, line_held}
use Rattle.program_frame.specs.Commands.{Line, Program}
use Rattle.program_frame.specs.Reports.{GivesReport, IsReportOf, IsReported, Reporting, Reports, as_lines}
use Rattle.program_frame.specs.Stops.{stop_for_table}
use Rattle.program_frame.specs.Tables.{HasBadTable, IsTableLine, TableProgram, by_table}
use Rattle.program_frame.specs.declared.report.Report.{Report}
use Rattle.program_frame.specs.declared.stop.Stop.{Stop}
use Rattle.program_frame.specs.declared.stop.Stop.TheVariants as stop

-- ---- answers

module _ {Answer : Type 0} (reporting : Reporting Answer) where
  -- the line of a report is that of its answer
  line_is : (answer : Answer) (report : Report) → IsReportOf reporting answer report → line_held report ≡ reporting.line_of answer
  line_is answer report h = λ i. record { status = h.status i; text = h.line i }

  -- a report of an answer has its line
  pub gives_line : (answer : Answer) (line : Line) (result : Result Report Stop) → line ≡ reporting.line_of answer → IsReported reporting answer result
      → GivesLine line result
  gives_line answer line (Ok report) is h = line_is answer report h ∙ sym is
  gives_line answer line (Err s) is h = h

  -- out of memory isn't reported, so memory ran out
  pub out_of_memory : (answer other : Answer) (result : Result Report Stop) → reporting.IsOutOfMemory answer → IsReported reporting answer result
      → IsReported reporting other result
  out_of_memory answer other (Ok report) wants h = absurd (h.reportable wants)
  out_of_memory answer other (Err s) wants h = h

  -- answers with one line have one report
  pub same_report : (answer other : Answer) (result : Result Report Stop) → reporting.line_of answer ≡ reporting.line_of other
      → IsReported reporting answer result → GivesReport reporting other result
  same_report answer other (Ok report) same h reportable =
      record { reportable = reportable; status = h.status ∙ ap (λ (l : Line). l.status) same; line = h.line ∙ ap (λ (l : Line). l.text) same }
  same_report answer other (Err s) same h reportable = h

  -- what is reported is an answer, and without a report memory ran out
  pub reported_is : (Is : Answer → Type 0) (answer : Answer) (result : Result Report Stop) → Is answer → IsReported reporting answer result
      → ((other : Answer) → Is other → GivesReport reporting other result) → Reports reporting Is result
  reported_is Is answer (Ok report) is h only = record { reported = (answer, is, h); stopped = tt; only = only }
  reported_is Is answer (Err s) is h only = record { reported = tt; stopped = h; only = only }

-- without a report memory ran out
stopped_for_memory : (HasBadLine : Type 0) (result : Result Report Stop) → IfErr result (λ s. s ≡ stop.Memory) → IfErr result (StopsForText HasBadLine)
stopped_for_memory HasBadLine (Ok report) h = tt
stopped_for_memory HasBadLine (Err s) h = subst (StopsForText HasBadLine) (sym h) tt

nothing_promised : (result : Result Report Stop) → IfOk result (λ report. Unit {0})
nothing_promised (Ok report) = tt
nothing_promised (Err s) = tt

-- ---- lines, of a program whose texts have no bad lines

module _ {Command : Type 0} (program : Program Command) (command : Command) (contents : List (List ℕ)) where
  pub IsReport-lines : (program.HasBadLine command contents → ⊥) → (result : Result Report Stop)
      → IfOk result (λ report. program.Promises command contents (line_held report))
      → IfOk result (λ report. report.status ≤ 1) → Reports as_lines (program.IsAnswer command contents) result
      → IsReport program command contents result
  IsReport-lines none result promised low h = record {
    reported = IfOk-weaker result _ _ (λ report is. subst (program.IsAnswer command contents) (sym (line_is as_lines is.0 report is.2)) is.1) h.reported;
    promised = promised;
    low = low;
    stopped = stopped_for_memory _ result h.stopped;
    only = λ line is. gives_line as_lines line line result refl (h.only line is (λ none. none));
    bad = λ bad. absurd (none bad);
  }

-- ---- under a table

module _ {Command Answer : Type 0} (program : TableProgram Command Answer) (command : Command) (contents : List (List ℕ)) where
  -- if it is a table
  module _ (rows : List VerdictRow) (is_table : IsTable (program.table_in command contents) rows) where
    under_rows : (others : List VerdictRow) (answer : Answer) → IsTable (program.table_in command contents) others
        → program.IsAnswerTo (verdict_of others) command contents answer → program.IsAnswerTo (verdict_of rows) command contents answer
    under_rows others answer are =
        subst (λ (rs : List VerdictRow). program.IsAnswerTo (verdict_of rs) command contents answer) (table_once _ others rows are is_table)

    table_line : (report : Report)
        → (answer : Answer) × program.IsAnswerTo (verdict_of rows) command contents answer × IsReportOf program.reporting answer report
        → IsTableLine program command contents (line_held report)
    table_line report h = record {
      answer = h.0;
      rows = rows;
      is_table = is_table;
      is_answer = h.1;
      reportable = h.2.reportable;
      line_is = line_is program.reporting h.0 report h.2;
    }

    pub IsReport-table : (result : Result Report Stop) → IfOk result (λ report. report.status ≤ 1)
        → Reports program.reporting (program.IsAnswerTo (verdict_of rows) command contents) result
        → IsReport (by_table program) command contents result
    IsReport-table result low h = record {
      reported = IfOk-weaker result _ _ (λ report is. table_line report is) h.reported;
      promised = nothing_promised result;
      low = low;
      stopped = stopped_for_memory _ result h.stopped;
      only = λ line is. gives_line program.reporting is.answer line result is.line_is
          (h.only is.answer (under_rows is.rows is.answer is.is_table is.is_answer) is.reportable);
      bad = λ bad. absurd (no_bad_line _ rows bad.0 is_table bad.1);
    }

  -- if it isn't
  module _ (text : List ℕ) (text_is : text ≡ program.table_in command contents) where
    caused : (e : TableError) → IsCause text e → StopsForText (HasBadTable program command contents) (stop_for_table e)
    caused (table.BadLine number) cause = (number, subst (λ (t : List ℕ). IsFirstBadLine t number) text_is cause)
    caused table.Memory cause = tt

    bad_or_memory : (number : ℕ) (e : TableError) → (e ≡ table.BadLine number) ⊎ (e ≡ table.Memory)
        → GivesStop stop.BadTable (Err (stop_for_table e))
    bad_or_memory number e (inl is) = inl (ap Err (ap stop_for_table is))
    bad_or_memory number e (inr is) = inr (ap Err (ap stop_for_table is))

    pub IsReport-no_table : (e : TableError) → IsCause text e → ((rows : List VerdictRow) → IsTable text rows → e ≡ table.Memory)
        → ((number : ℕ) → IsFirstBadLine text number → (e ≡ table.BadLine number) ⊎ (e ≡ table.Memory))
        → IsReport (by_table program) command contents (Err (stop_for_table e))
    IsReport-no_table e cause each_table each_bad = record {
      reported = tt;
      promised = tt;
      low = tt;
      stopped = caused e cause;
      only = λ line is. ap stop_for_table (each_table is.rows (subst (λ (t : List ℕ). IsTable t is.rows) (sym text_is) is.is_table));
      bad = λ bad. bad_or_memory bad.0 e (each_bad bad.0 (subst (λ (t : List ℕ). IsFirstBadLine t bad.0) (sym text_is) bad.1));
    }
