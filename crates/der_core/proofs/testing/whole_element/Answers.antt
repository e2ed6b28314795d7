use Rattle.der_core.proofs.Exact.{no_fault_where_whole}
use Rattle.der_core.proofs.testing.whole_element.Goals as goal

pub returns-in-Err : goal.returns-in-Err
returns-in-Err c = λ element kept. no_fault_where_whole _ element _ _ kept.0 kept.1 c.in-Err.ensures
