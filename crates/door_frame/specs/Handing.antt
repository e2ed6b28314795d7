-- How a line is handed out into a buffer.
use Rattle.std.specs.Prelude.{◌==◌, ℕ, List, [], if◌then◌else◌}
use Rattle.program_frame.specs.Statuses as statuses

-- What is handed out of a sink: its contents, but no part of a line that it didn't accept whole.
abbrev pub handed_line : (status : ℕ) → (held : List ℕ) → List ℕ
handed_line status held = if status == statuses.sink_failed then [] else held
