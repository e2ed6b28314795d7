use Rattle.x509_types.proofs.FirstExtensions.{none_lent, lent_kids}
use Rattle.authenticode_core.proofs.signature.attributes.attributes_of.Goals as goal

pub returns-in_err-attributes : goal.returns-in_err-attributes
returns-in_err-attributes c = rw c.from_residual.ensures (none_lent _ _ c.signed_attributes.ensures c.in_err-attributes.was)

pub returns : goal.returns
returns c = lent_kids _ _ _ _ _ c.signed_attributes.ensures c.in_ok-attributes.was c.within.ensures
