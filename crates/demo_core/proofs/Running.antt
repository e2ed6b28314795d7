-- A run of a demonstration, by what was reported and delivered.
use Rattle.std.proofs.Common.{◌≡◌, ◌⊎◌, ℕ, List, length, Ok, inl, inr, ap, subst, ◌∙◌, arith}
use Rattle.std.specs.Prelude.{string_bytes}
use Rattle.der_core.specs.Counts.{FailsOnce}
use Rattle.program_frame.specs.Ending.{Delivers}
use Rattle.program_frame.specs.Reports.{IsReportOf, Reports}
use Rattle.program_frame.specs.Sink.{SinkState, Appends, IsCutShort}
use Rattle.program_frame.specs.declared.report.Report.{Report}
use Rattle.program_frame.proofs.Failing.{none_failed}
use Rattle.program_frame.proofs.Reporting.{reported_is}
use Rattle.demo_core.specs.Demonstration.{IsDemonstration, report_line}
use Rattle.demo_core.specs.Run.{IsRun, reporting}
use Rattle.demo_core.specs.declared.demonstration.Demonstration.{Demonstration}
use Rattle.demo_core.proofs.OneReport.{one_report}

-- ---- reports

-- a demonstration is reported by its line
pub line_reports : (count : ℕ) (demonstration : Demonstration) (report : Report) → IsDemonstration count demonstration
    → IsReportOf reporting demonstration report
    → Reports reporting (IsDemonstration count) (Ok report)
line_reports count demonstration report is h =
    reported_is reporting (IsDemonstration count) demonstration (Ok report) is h
    (λ other also reportable. subst (λ (d : Demonstration). IsReportOf reporting d report) (one_report count demonstration other is also) h)

-- ---- runs

module _ {S : Type 0} (count : ℕ) (state : S → SinkState) (out out_now : S) (status : ℕ) where
  -- the line was written whole, or as far as the sink accepted it
  pub IsRun-delivered : (report : Report) → Reports reporting (IsDemonstration count) (Ok report) → Delivers report (state out) (state out_now) status
      → FailsOnce (status ≡ 5) (state out).faults (state out_now).faults → IsRun count state out out_now status
  IsRun-delivered report reports (inl (same, written)) once =
      let is = reports.reported in
      let zero : status ≡ 0 = same ∙ is.2.status in
      record {
        bounded = inl zero;
        delivered = λ accepted. record {
          demonstration = is.0;
          is = is.1;
          written = subst (λ (text : List ℕ). Appends (state out).held text (state out_now).held) is.2.line written;
        };
        sink_failed = λ five. absurd (omega (arith, zero, five));
        has_room = λ demonstration one fits five. omega (arith, zero, five);
        untouched = λ seven. absurd (omega (arith, zero, seven));
        sink_once = once;
      }
  IsRun-delivered report reports (inr (five, risen, short)) once =
      let is = reports.reported in
      let cut : IsCutShort (report_line is.0) (state out) (state out_now) =
      subst (λ (text : List ℕ). IsCutShort text (state out) (state out_now)) is.2.line short in
      record {
        bounded = inr (inl five);
        delivered = λ zero. absurd (omega (arith, zero, five));
        sink_failed = λ failed. record { demonstration = is.0; is = is.1; cut_short = cut; has_risen = risen };
        has_room = λ demonstration one fits failed.
            let same = ap (λ (d : Demonstration). length (report_line d)) (one_report count demonstration is.0 one is.1) in
            omega (arith, same, fits.2, cut.full fits.0 fits.1, cut.short);
        untouched = λ seven. absurd (omega (arith, seven, five));
        sink_once = once;
      }

  -- memory ran out
  pub IsRun-stopped : out_now ≡ out → status ≡ 7 → IsRun count state out out_now status
  IsRun-stopped same seven = record {
    bounded = inr (inr seven);
    delivered = λ zero. absurd (omega (arith, zero, seven));
    sink_failed = λ five. absurd (omega (arith, five, seven));
    has_room = λ demonstration one fits five. omega (arith, five, seven);
    untouched = λ memory. same;
    sink_once = none_failed (ap (λ (s : S). (state s).faults) same);
  }
