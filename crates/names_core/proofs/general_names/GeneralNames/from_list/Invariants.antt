use Rattle.std.proofs.Common.{◌≡◌, map}
use Rattle.names_core.specs.GeneralName.{raw_name}
use Rattle.names_core.proofs.general_names.GeneralNames.from_list.Given as goal

abbrev pub invariant-loop-name : goal.invariant-loop-name
invariant-loop-name l = l.made ≡ map raw_name l.yielded
