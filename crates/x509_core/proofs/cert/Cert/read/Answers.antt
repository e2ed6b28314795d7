use Rattle.std.proofs.Common.{Ok, Err, ap, subst}
use Rattle.std.proofs.lemmas.Result.{err_from_is_err_and}
use Rattle.der_core.specs.declared.error.DerError.TheVariants as errors
use Rattle.der_core.proofs.Exact.{whole_once, no_fault_where_whole, refused_exactly}
use Rattle.x509_types.specs.Certificate.{IsCertificate}
use Rattle.x509_core.proofs.ReadCerts.{read_whole, read_value}
use Rattle.x509_core.proofs.cert.Cert.read.Goals as goal

pub returns-in_err-elem-clause-faulty : goal.returns-in_err-elem-clause-faulty
returns-in_err-elem-clause-faulty c = λ at fault there.
    let p = err_from_is_err_and c.from_residual.result c.from_residual.ensures.1 in
    rw (p.1, p.2) (ap Err (ap errors.Malformed (refused_exactly c.args.der.now at fault c.in_err-elem.field-0.0 there c.in_err-elem.ensures)))

pub returns-in_err-elem-clause-shapeless : goal.returns-in_err-elem-clause-shapeless
returns-in_err-elem-clause-shapeless c = λ element der is none. absurd (no_fault_where_whole c.args.der.now element _ _ der is c.in_err-elem.ensures)

pub returns-in-Ok-clause-faulty : goal.returns-in-Ok-clause-faulty
returns-in-Ok-clause-faulty c = λ at fault there. absurd (no_fault_where_whole c.args.der.now _ at fault c.in_ok-elem.elem.is.1.0 c.in_ok-elem.ensures there)

pub returns-in-Ok-clause-shapeless : goal.returns-in-Ok-clause-shapeless
returns-in-Ok-clause-shapeless c = λ element der is none.
    let same = whole_once c.args.der.now _ element c.in_ok-elem.elem.is.1.0 der c.in_ok-elem.ensures is in
    absurd (none c.in-Ok.cert.certificate (subst (λ e. IsCertificate e c.in-Ok.cert.certificate) same c.in-Ok.ensures.answer))

pub returns-in-Ok-clause-kept : goal.returns-in-Ok-clause-kept
returns-in-Ok-clause-kept c = read_whole c.args.der.now _ (Ok c.in-Ok.cert) c.in_ok-elem.ensures c.in-Ok.ensures.kept

pub returns-in-Ok-clause-answer : goal.returns-in-Ok-clause-answer
returns-in-Ok-clause-answer c = read_value c.args.der.now _ (Ok c.in-Ok.cert) c.in_ok-elem.elem.is.1.0 c.in_ok-elem.ensures c.in-Ok.ensures.answer

pub returns-in-Err-clause-faulty : goal.returns-in-Err-clause-faulty
returns-in-Err-clause-faulty c = λ at fault there. absurd (no_fault_where_whole c.args.der.now _ at fault c.in_ok-elem.elem.is.1.0 c.in_ok-elem.ensures there)

pub returns-in-Err-clause-shapeless : goal.returns-in-Err-clause-shapeless
returns-in-Err-clause-shapeless c = λ element der is none.
    let same = whole_once c.args.der.now _ element c.in_ok-elem.elem.is.1.0 der c.in_ok-elem.ensures is in
    ap Err (c.refusal.ensures.shapeless (λ cert spelled. none cert (subst (λ e. IsCertificate e cert) same spelled)))

pub returns-in-Err-clause-answer : goal.returns-in-Err-clause-answer
returns-in-Err-clause-answer c = read_value c.args.der.now _ (Err c.refusal.result) c.in_ok-elem.elem.is.1.0 c.in_ok-elem.ensures c.refusal.ensures.answer
