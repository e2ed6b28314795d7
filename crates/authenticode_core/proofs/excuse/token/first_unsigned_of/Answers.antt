use Rattle.x509_types.proofs.FirstExtensions.{none_lent}
use Rattle.authenticode_core.proofs.Tokens.{first_lent}
use Rattle.authenticode_core.proofs.excuse.token.first_unsigned_of.Goals as goal

pub returns-in_err-attributes : goal.returns-in_err-attributes
returns-in_err-attributes c = rw c.from_residual.ensures (none_lent _ _ c.unsigned_attributes.ensures c.in_err-attributes.was)

pub returns : goal.returns
returns c = first_lent c.first_within.result _ _ _ c.unsigned_attributes.ensures c.in_ok-attributes.was c.first_within.ensures
