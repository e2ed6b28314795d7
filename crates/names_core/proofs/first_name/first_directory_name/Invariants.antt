use Rattle.std.proofs.Common.{◌≡◌, length}
use Rattle.names_core.specs.GeneralNames.{first_directory_name}
use Rattle.names_core.proofs.first_name.first_directory_name.Given as goal

abbrev pub invariant-loop-name : goal.invariant-loop-name
invariant-loop-name l = first_directory_name l.rest ≡ first_directory_name l.fn.names

abbrev pub decreases-loop-name : goal.decreases-loop-name
decreases-loop-name l = length l.rest
