use Rattle.der_core.proofs.Exact.{no_fault_where_whole}
use Rattle.der_core.proofs.Values.{read_in_string}
use Rattle.der_core.proofs.within.read_within.Goals as goal

pub returns-in-Ok : goal.returns-in-Ok
returns-in-Ok g c = read_in_string g.T.Structure.spells _ _ c.in-Ok.elem.is.1.0 c.in-Ok.ensures _ c.read_at.ensures

pub returns-in-Err : goal.returns-in-Err
returns-in-Err g c = λ value within. no_fault_where_whole _ within.element _ _ within.der within.encoded c.in-Err.ensures
