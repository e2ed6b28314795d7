use Rattle.der_core.proofs.Decided.{fault_found}
use Rattle.der_core.proofs.Exact.{no_fault_where_first}
use Rattle.der_core.proofs.Faults.{outermost_fault, one_fault}
use Rattle.der_core.proofs.laws.one_first_fault.Goals as goal

pub returns-clause-at_most_one : goal.returns-clause-at_most_one
returns-clause-at_most_one c = λ octets p q e f first second. one_fault 64 p q octets e f (outermost_fault octets p e first) (outermost_fault octets q f second)

pub returns-clause-instead_of_an_element : goal.returns-clause-instead_of_an_element
returns-clause-instead_of_an_element c = λ octets p e there a n first. no_fault_where_first octets a n p e first there

pub returns-clause-where_no_element : goal.returns-clause-where_no_element
returns-clause-where_no_element c = fault_found
