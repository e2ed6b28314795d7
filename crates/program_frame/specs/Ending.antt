-- How a run ends: the sink after it, and the exit status.
use Rattle.std.specs.Prelude.{◌≡◌, ◌⊎◌, ℕ, Result, MatchResult, string_bytes}
use Rattle.der_core.specs.Counts.{HasRisen}
use Rattle.program_frame.specs.Sink.{SinkState, Appends, IsCutShort}
use Rattle.program_frame.specs.Statuses as statuses
use Rattle.program_frame.specs.Stops.{status_for}
use Rattle.program_frame.specs.declared.report.Report.{Report}
use Rattle.program_frame.specs.declared.stop.Stop.{Stop}

-- The line of a report was written, and the status is the report's; or the sink accepted only a part
-- of the line.
abbrev pub Delivers : Report → (out out_now : SinkState) → (status : ℕ) → Type 0
Delivers report out out_now status =
    ((status ≡ report.status) × Appends out.held (string_bytes report.line) out_now.held)
    ⊎ ((status ≡ statuses.sink_failed) × HasRisen out.faults out_now.faults
    × IsCutShort (string_bytes report.line) out out_now)

-- A report is delivered; without one nothing is written, and the status says why.
abbrev pub Ends : Result Report Stop → (out out_now : SinkState) → (status : ℕ) → Type 0
Ends result out out_now status = MatchResult result
    (λ report. Delivers report out out_now status)
    (λ stop. (status ≡ status_for stop) × (out_now ≡ out))
