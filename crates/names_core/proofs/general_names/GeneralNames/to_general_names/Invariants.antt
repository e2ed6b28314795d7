use Rattle.std.proofs.Common.{◌≡◌, map, take}
use Rattle.names_core.specs.GeneralName.{raw_name}
use Rattle.names_core.proofs.general_names.GeneralNames.to_general_names.Given as goal

abbrev pub invariant-loop-name : goal.invariant-loop-name
invariant-loop-name l = map raw_name l.names.items ≡ take l.name-index l.name-items
