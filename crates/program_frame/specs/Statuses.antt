-- The exit statuses of a run.
use Rattle.std.specs.Prelude.{ℕ}

-- what was asked for is accepted
abbrev pub accepted : ℕ
accepted = 0

-- it is refused
abbrev pub refused : ℕ
refused = 1

-- the words are no command
abbrev pub usage : ℕ
usage = 2

-- the verdict table has a bad line
abbrev pub bad_table : ℕ
bad_table = 3

-- a file can't be read
abbrev pub shelf_failed : ℕ
shelf_failed = 4

-- the report can't be written
abbrev pub sink_failed : ℕ
sink_failed = 5

-- a file is too long
abbrev pub too_long : ℕ
too_long = 6

-- memory ran out
abbrev pub out_of_memory : ℕ
out_of_memory = 7
