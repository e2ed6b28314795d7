use Rattle.extension_types.proofs.Constraints.{boolean_taken}
use Rattle.extension_types.proofs.boolean.next_boolean.Goals as goal

pub returns : goal.returns
returns c = boolean_taken _ _ _ _ c.in-Some.ensures.0 c.in_ok-boolean_at.ensures
