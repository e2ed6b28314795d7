use Rattle.std.proofs.Common.{Err, ap, ◌∙◌}
use Rattle.std.proofs.lemmas.Result.{err_from_is_err_and}
use Rattle.der_core.specs.declared.error.DerError.TheVariants as errors
use Rattle.der_core.proofs.Exact.{whole_once, no_fault_where_whole, refused_exactly}
use Rattle.authenticode_signature.proofs.pkcs7.read.Goals as goal

pub returns-in_err-elem-clause-faulty : goal.returns-in_err-elem-clause-faulty
returns-in_err-elem-clause-faulty c = λ at fault there.
    let p = err_from_is_err_and c.from_residual.result c.from_residual.ensures.1 in
    rw (p.1, p.2) (ap Err (ap errors.Malformed (refused_exactly c.args.der.now at fault c.in_err-elem.field-0.0 there c.in_err-elem.ensures)))

pub returns-in_err-elem-clause-shapeless : goal.returns-in_err-elem-clause-shapeless
returns-in_err-elem-clause-shapeless c = λ element der is none. absurd (no_fault_where_whole c.args.der.now element _ _ der is c.in_err-elem.ensures)

pub returns-in_default-clause-faulty : goal.returns-in_default-clause-faulty
returns-in_default-clause-faulty c =
    λ at fault there. absurd (no_fault_where_whole c.args.der.now _ at fault c.in_ok-elem.elem.is.1.0 c.in_ok-elem.ensures there)

pub returns-clause-faulty : goal.returns-clause-faulty
returns-clause-faulty c = λ at fault there. absurd (no_fault_where_whole c.args.der.now _ at fault c.in_ok-elem.elem.is.1.0 c.in_ok-elem.ensures there)

pub returns-clause-shapeless : goal.returns-clause-shapeless
returns-clause-shapeless c = λ element der is none.
    let view = c.in-Some.ensures in
    absurd (none view.value (whole_once c.args.der.now element _ der c.in_ok-elem.elem.is.1.0 is c.in_ok-elem.ensures ∙ view.spelled))
