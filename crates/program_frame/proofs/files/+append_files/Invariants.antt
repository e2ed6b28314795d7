use Rattle.std.proofs.Common.{length}
use Rattle.program_frame.specs.Owned.{names_held}
use Rattle.program_frame.proofs.files.+append_files.Given as goal

abbrev pub decreases-append_files : goal.decreases-append_files
decreases-append_files g l = length (names_held l.names)
