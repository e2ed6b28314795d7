use Rattle.std.proofs.Common.{rules}
use Rattle.der_core.specs.Facts.Equality.{octets_decide}
use Rattle.extension_types.specs.BasicConstraints.{basic_constraints}
use Rattle.extension_types.specs.Facts.Constraints.{all_basic_constraints, constraints_printed}
use Rattle.extension_types.proofs.basic_constraints.BasicConstraintsPartialEq.eq.Goals as goal

pub returns-then-eq-clause-octets : goal.returns-then-eq-clause-octets
returns-then-eq-clause-octets c =
    octets_decide basic_constraints constraints_printed all_basic_constraints.formed c.args.self.now c.args.other.now _ (search rules)

pub returns-else-eq-clause-octets : goal.returns-else-eq-clause-octets
returns-else-eq-clause-octets c =
    octets_decide basic_constraints constraints_printed all_basic_constraints.formed c.args.self.now c.args.other.now _ (search rules)
