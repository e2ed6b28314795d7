-- Why a run ends without a report, and with which status.
use Rattle.std.specs.Prelude.{ℕ}
use Rattle.sig_core.specs.declared.verdict_table.TableError.{TableError}
use Rattle.sig_core.specs.declared.verdict_table.TableError.TheVariants as table
use Rattle.program_frame.specs.declared.error.FileError.{FileError}
use Rattle.program_frame.specs.declared.error.FileError.TheVariants as file
use Rattle.program_frame.specs.declared.stop.Stop.{Stop}
use Rattle.program_frame.specs.Statuses as statuses
use Rattle.program_frame.specs.declared.stop.Stop.TheVariants.{Usage, BadTable, Shelf, TooLong, Memory}

-- for a file that wasn't read
abbrev pub stop_for_file : FileError → Stop
stop_for_file file.Fault = Shelf
stop_for_file file.TooLong = TooLong
stop_for_file file.Memory = Memory

-- for a text that isn't a table
abbrev pub stop_for_table : TableError → Stop
stop_for_table (table.BadLine number) = BadTable
stop_for_table table.Memory = Memory

-- the exit status
abbrev pub status_for : Stop → ℕ
status_for Usage = statuses.usage
status_for BadTable = statuses.bad_table
status_for Shelf = statuses.shelf_failed
status_for TooLong = statuses.too_long
status_for Memory = statuses.out_of_memory
