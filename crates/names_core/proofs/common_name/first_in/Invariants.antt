use Rattle.std.proofs.Common.{◌≡◌, length}
use Rattle.std.specs.Prelude.{filter_map}
use Rattle.std.specs.List.{slice_get}
use Rattle.names_core.specs.DirectoryName.{common_name_of}
use Rattle.names_core.proofs.common_name.first_in.Given as goal

abbrev pub invariant-loop-attribute : goal.invariant-loop-attribute
invariant-loop-attribute l = slice_get (filter_map common_name_of l.rest) 0 ≡ slice_get (filter_map common_name_of l.fn.members) 0

abbrev pub decreases-loop-attribute : goal.decreases-loop-attribute
decreases-loop-attribute l = length l.rest
