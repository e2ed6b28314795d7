use Rattle.extension_types.proofs.Constraints.{bad_flag}
use Rattle.extension_types.proofs.basic_constraints.BasicConstraints.at.Goals as goal

pub returns-in_err-ca : goal.returns-in_err-ca
returns-in_err-ca c = rw c.from_residual-in_err-ca.ensures (λ b is. bad_flag _ _ b c.in_ok-kids.ensures c.in_err-ca.ensures is)
