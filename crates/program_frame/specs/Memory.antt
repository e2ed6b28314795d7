-- Shelves and sinks in memory: their contents and what they expose.
use Rattle.std.specs.Prelude.{ℕ, Bool, ◌+◌, ◌==◌, min, List, ◌≡◌, ◌<◌, drop, Option, Some, if◌then◌else◌, bytes_eq, All}
use Rattle.der_core.specs.Counts.{last_count}
use Rattle.program_frame.specs.declared.memory.Calls.{Calls}
use Rattle.program_frame.specs.declared.memory.MemShelf.{MemShelf}
use Rattle.program_frame.specs.declared.memory.MemSink.{MemSink}
use Rattle.std.specs.List.{list_any}
use Rattle.program_frame.specs.Shelf.{Files, ShelfState, file_of}
use Rattle.program_frame.specs.Sink.{SinkState}
use Rattle.program_frame.specs.Stored.{latest_file, octets_at}

-- the files of a shelf in memory
abbrev pub shelf_files : MemShelf → Option Files
shelf_files shelf = Some (latest_file shelf.files.items)

-- the file with this name is this one from now on, and the others stay
abbrev pub AddsFile : Option Files → List ℕ → List ℕ → Option Files → Type 0
AddsFile before name octets after = (other : List ℕ)
    → file_of after other ≡ (if bytes_eq name other then Some octets else file_of before other)

-- the octets left to read
abbrev pub shelf_rest : MemShelf → List ℕ
shelf_rest shelf = drop shelf.at (octets_at shelf.files.items shelf.picked)

-- the number of octets handed out
abbrev pub shelf_given : MemShelf → ℕ
shelf_given shelf = shelf.given

-- the number of faults
abbrev pub shelf_faults : MemShelf → ℕ
shelf_faults shelf = shelf.calls.faults

-- the number of calls served, which is the number of the next one
abbrev pub shelf_calls : MemShelf → ℕ
shelf_calls shelf = shelf.calls.count

-- the calls that are set to fail
abbrev pub shelf_failing : MemShelf → List ℕ
shelf_failing shelf = shelf.calls.failing.items

-- the next call is set to fail
abbrev pub is_set_to_fail : MemShelf → Bool
is_set_to_fail shelf = list_any (λ call. call == shelf_calls shelf) (shelf_failing shelf)

-- one more call was served
pub record IsNextCall (before after : MemShelf) : Type 0 where
  pub calls : shelf_calls after ≡ min (shelf_calls before + 1) last_count
  pub failing : shelf_failing after ≡ shelf_failing before

-- no call from the next one on is set to fail
abbrev pub is_quiet_from_now : Calls → Type 0
is_quiet_from_now calls = All (λ call. call < calls.count) calls.failing.items

-- no call of the shelf from the next one on is set to fail
abbrev pub shelf_is_quiet : MemShelf → Type 0
shelf_is_quiet shelf = is_quiet_from_now shelf.calls

-- the observable state of a shelf in memory
abbrev pub shelf_state : MemShelf → ShelfState
shelf_state shelf = record {
  files = shelf_files shelf;
  rest = Some (shelf_rest shelf);
  given = shelf_given shelf;
  faults = shelf_faults shelf;
  is_quiet = shelf_is_quiet shelf;
}

-- the octets left to read and the counts stay
pub record KeepsPlace (before after : MemShelf) : Type 0 where
  pub rest : shelf_rest after ≡ shelf_rest before
  pub given : after.given ≡ before.given
  pub faults : after.calls.faults ≡ before.calls.faults
  pub calls : after.calls.count ≡ before.calls.count

-- the octets of a sink in memory
abbrev pub sink_held : MemSink → List ℕ
sink_held sink = sink.octets.items

-- the number of octets it can still accept
abbrev pub sink_room : MemSink → ℕ
sink_room sink = sink.room

-- the number of faults
abbrev pub sink_faults : MemSink → ℕ
sink_faults sink = sink.faults

-- the observable state of a sink in memory
abbrev pub sink_state : MemSink → SinkState
sink_state sink = record {
  held = Some (sink_held sink);
  room = Some (sink_room sink);
  faults = sink_faults sink;
}
