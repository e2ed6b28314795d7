-- What a run of a demonstration does: its status, its cause, and the contents of the sink after it.
use Rattle.std.specs.Prelude.{◌≡◌, ◌≢◌, ◌⊎◌, ℕ, length}
use Rattle.der_core.specs.Counts.{FailsOnce, HasRisen}
use Rattle.program_frame.specs.Reports.{Reporting}
use Rattle.program_frame.specs.Sink.{SinkState, Appends, HasRoom, IsCutShort}
use Rattle.program_frame.specs.Statuses as statuses
use Rattle.demo_core.specs.Demonstration.{IsDemonstration, report_line}
use Rattle.demo_core.specs.declared.demonstration.Demonstration.{Demonstration}

-- how demonstrations are reported: each is accepted, and none is out of memory
abbrev pub reporting : Reporting Demonstration
reporting = record {
  IsOutOfMemory = λ demonstration. ⊥;
  line_of = λ demonstration. record {
    status = statuses.accepted;
    text = report_line demonstration;
  };
}

-- So many steps were demonstrated. If the sink exposes its contents, exactly the line has been
-- appended.
pub record IsDelivered (count : ℕ) (out out_now : SinkState) : Type 0 where
  pub demonstration : Demonstration
  pub is : IsDemonstration count demonstration
  pub written : Appends out.held (report_line demonstration) out_now.held

-- So many steps were demonstrated, but the sink didn't accept the whole line: it accepted a prefix,
-- and its fault count rose.
pub record IsLost (count : ℕ) (out out_now : SinkState) : Type 0 where
  pub demonstration : Demonstration
  pub is : IsDemonstration count demonstration
  pub cut_short : IsCutShort (report_line demonstration) out out_now
  pub has_risen : HasRisen out.faults out_now.faults

-- A run of a demonstration of so many steps: a sink before and after it, by its observable state,
-- and a status.
pub record IsRun {S : Type 0} (count : ℕ) (state : S → SinkState) (out out_now : S)
    (status : ℕ) : Type 0 where
  -- there is no other status
  pub bounded : (status ≡ statuses.accepted)
      ⊎ ((status ≡ statuses.sink_failed) ⊎ (status ≡ statuses.out_of_memory))
  pub delivered : status ≡ statuses.accepted → IsDelivered count (state out) (state out_now)
  pub sink_failed : status ≡ statuses.sink_failed → IsLost count (state out) (state out_now)
  -- a sink that exposes room for the line doesn't fail
  pub has_room : (demonstration : Demonstration) → IsDemonstration count demonstration
      → HasRoom (state out).room (length (report_line demonstration))
      → status ≢ statuses.sink_failed
  -- if memory runs out, the sink isn't touched
  pub untouched : status ≡ statuses.out_of_memory → out_now ≡ out
  -- a failed call of the sink is the last one, and the status reports it
  pub sink_once : FailsOnce (status ≡ statuses.sink_failed)
      (state out).faults (state out_now).faults
