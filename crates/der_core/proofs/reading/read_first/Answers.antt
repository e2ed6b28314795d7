use Rattle.std.proofs.Common.{Err, ap}
use Rattle.std.proofs.lemmas.Result.{err_from_is_err_and}
use Rattle.der_core.specs.declared.error.DerError.TheVariants as errors
use Rattle.der_core.proofs.Exact.{no_fault_where_first}
use Rattle.der_core.proofs.Faults.{refused_as}
use Rattle.der_core.proofs.reading.read_first.Goals as goal

pub returns-in_err-elem-clause-faulty : goal.returns-in_err-elem-clause-faulty
returns-in_err-elem-clause-faulty c = λ at fault first.
    let p = err_from_is_err_and c.from_residual.result c.from_residual.ensures.1 in
    rw (p.1, p.2) (ap Err (ap errors.Malformed (refused_as c.args.bytes.now at fault c.in_err-elem.field-0.0 first c.in_err-elem.ensures)))

pub returns-in_err-tree-clause-faulty : goal.returns-in_err-tree-clause-faulty
returns-in_err-tree-clause-faulty c = λ at fault first. absurd (no_fault_where_first c.args.bytes.now _ _ at fault c.in_ok-elem.ensures first)

pub returns-clause-faulty : goal.returns-clause-faulty
returns-clause-faulty c = λ at fault first. absurd (no_fault_where_first c.args.bytes.now _ _ at fault c.in_ok-elem.ensures first)
