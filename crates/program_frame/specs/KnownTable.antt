-- A verdict table that is parsed once, for many runs.
use Rattle.std.specs.Prelude.{List}
use Rattle.program_frame.specs.declared.known_table.FoundTable.{FoundTable}
use Rattle.program_frame.specs.declared.known_table.FoundTable.TheVariants as found
use Rattle.sig_core.specs.declared.verdict_row.VerdictRow.{VerdictRow}

-- the rows of a table
abbrev pub found_rows : FoundTable → List VerdictRow
found_rows (found.Known table) = table.now
found_rows (found.Parsed table) = table
