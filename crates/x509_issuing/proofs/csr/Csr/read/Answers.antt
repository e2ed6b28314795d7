use Rattle.std.proofs.Common.{Err, ap, subst, rules}
use Rattle.std.proofs.lemmas.Result.{err_from_is_err_and}
use Rattle.der_core.specs.declared.error.DerError.TheVariants as errors
use Rattle.der_core.proofs.Exact.{whole_once, no_fault_where_whole, refused_exactly}
use Rattle.x509_issuing.specs.CertificationRequest.{IsRequest}
use Rattle.x509_issuing.proofs.ReadCsrs.{read_whole, read_value}
use Rattle.x509_issuing.proofs.csr.Csr.read.Goals as goal

pub returns-in_err-elem-clause-faulty : goal.returns-in_err-elem-clause-faulty
returns-in_err-elem-clause-faulty c = λ at fault there.
    let p = err_from_is_err_and c.from_residual.result c.from_residual.ensures.1 in
    rw (p.1, p.2) (ap Err (ap errors.Malformed (refused_exactly c.args.der.now at fault c.in_err-elem.field-0.0 there c.in_err-elem.ensures)))

pub returns-in_err-elem-clause-shapeless : goal.returns-in_err-elem-clause-shapeless
returns-in_err-elem-clause-shapeless c = λ element der is none. absurd (no_fault_where_whole c.args.der.now element _ _ der is c.in_err-elem.ensures)

pub returns-then-not-has_shape-clause-faulty : goal.returns-then-not-has_shape-clause-faulty
returns-then-not-has_shape-clause-faulty c =
    λ at fault there. absurd (no_fault_where_whole c.args.der.now _ at fault c.in_ok-elem.elem.is.1.0 c.in_ok-elem.ensures there)

pub returns-then-not-has_shape-clause-answer : goal.returns-then-not-has_shape-clause-answer
returns-then-not-has_shape-clause-answer c = record {
  element = c.in_ok-elem.elem.is.0;
  der = c.in_ok-elem.elem.is.1.0;
  encoded = c.in_ok-elem.ensures;
  none = c.has_shape.ensures.unfit (search rules);
}

pub returns-clause-faulty : goal.returns-clause-faulty
returns-clause-faulty c = λ at fault there. absurd (no_fault_where_whole c.args.der.now _ at fault c.in_ok-elem.elem.is.1.0 c.in_ok-elem.ensures there)

pub returns-clause-shapeless : goal.returns-clause-shapeless
returns-clause-shapeless c = λ element der is none.
    let fit = c.has_shape.ensures.fits (search rules) in
    absurd (none fit.0 (subst (λ e. IsRequest e fit.0) (whole_once c.args.der.now _ element c.in_ok-elem.elem.is.1.0 der c.in_ok-elem.ensures is) fit.1))

pub returns-clause-kept : goal.returns-clause-kept
returns-clause-kept c = read_whole c.args.der.now _ c.read_at.result c.in_ok-elem.ensures c.read_at.ensures.kept

pub returns-clause-answer : goal.returns-clause-answer
returns-clause-answer c = read_value c.args.der.now _ c.read_at.result c.in_ok-elem.elem.is.1.0 c.in_ok-elem.ensures c.read_at.ensures.answer
