use Rattle.std.proofs.Common.{◌≡◌, length}
use Rattle.names_core.specs.DirectoryName.{first_common_name}
use Rattle.names_core.proofs.common_name.first_common_name.Given as goal

abbrev pub invariant-loop-set : goal.invariant-loop-set
invariant-loop-set l = first_common_name l.rest ≡ first_common_name l.fn.sets

abbrev pub decreases-loop-set : goal.decreases-loop-set
decreases-loop-set l = length l.rest
