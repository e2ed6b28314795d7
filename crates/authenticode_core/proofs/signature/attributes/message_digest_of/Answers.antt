use Rattle.authenticode_core.proofs.FirstAttributes.{no_attribute, no_first, no_value, digest_or_none}
use Rattle.authenticode_core.proofs.signature.attributes.message_digest_of.Goals as goal

pub returns-in_err-attributes : goal.returns-in_err-attributes
returns-in_err-attributes c = rw c.from_residual.ensures (λ digest has. no_attribute _ _ _ c.in_err-attributes.ensures has.first)

pub returns-in_err-values : goal.returns-in_err-values
returns-in_err-values c = rw c.from_residual-in_err-values.ensures (no_first _ _ c.in_ok-attributes.ensures c.in_err-values.ensures)

pub returns-in_err-first : goal.returns-in_err-first
returns-in_err-first c = rw c.from_residual-in_err-first.ensures (no_value _ _ _ c.in_ok-attributes.ensures c.in_ok-values.ensures c.in_err-first.ensures.0)

pub returns : goal.returns
returns c = digest_or_none _ _ _ _ _ _ _ c.in_ok-attributes.ensures c.in_ok-values.ensures c.in_ok-first.ensures c.leaf_at.ensures
