use Rattle.std.proofs.Common.{Err, ap}
use Rattle.std.proofs.lemmas.Result.{err_from_is_err_and}
use Rattle.der_core.specs.declared.error.DerError.TheVariants as errors
use Rattle.der_core.proofs.Exact.{no_fault_where_whole, refused_exactly}
use Rattle.der_core.proofs.reading.read_exact.Goals as goal

pub returns-in_err-elem-clause-faulty : goal.returns-in_err-elem-clause-faulty
returns-in_err-elem-clause-faulty c = λ at fault there.
    let p = err_from_is_err_and c.from_residual.result c.from_residual.ensures.1 in
    rw (p.1, p.2) (ap Err (ap errors.Malformed (refused_exactly c.args.bytes.now at fault c.in_err-elem.field-0.0 there c.in_err-elem.ensures)))

pub returns-in_err-tree_of-clause-faulty : goal.returns-in_err-tree_of-clause-faulty
returns-in_err-tree_of-clause-faulty c =
    λ at fault there. absurd (no_fault_where_whole c.args.bytes.now _ at fault c.in_ok-elem.elem.is.1.0 c.in_ok-elem.ensures there)

pub returns-clause-faulty : goal.returns-clause-faulty
returns-clause-faulty c = λ at fault there. absurd (no_fault_where_whole c.args.bytes.now _ at fault c.in_ok-elem.elem.is.1.0 c.in_ok-elem.ensures there)
