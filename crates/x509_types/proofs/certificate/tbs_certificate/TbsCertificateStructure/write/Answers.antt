use Rattle.std.proofs.lemmas.Result.{err_from_is_err_and}
use Rattle.der_core.proofs.Inner.{refuses_before, refuses_last}
use Rattle.key_types.specs.PublicKeyInfo.{inner_key}
use Rattle.der_core.specs.Optional.{inner_option}
use Rattle.x509_types.specs.TbsCertificate.{inner_extensions}
use Rattle.x509_types.proofs.certificate.tbs_certificate.TbsCertificateStructure.write.Goals as goal

pub returns-in_err-push_value-6 : goal.returns-in_err-push_value-6
returns-in_err-push_value-6 c =
    let p = err_from_is_err_and c.from_residual-in_err-push_value-6.result c.from_residual-in_err-push_value-6.ensures.1 in
    let tbs = c.args.self.now in
    rw (p.1, p.2) (refuses_before (inner_key tbs.subject_public_key_info.subject_public_key)
    (inner_option inner_extensions tbs.extensions) _ c.in_err-push_value-6.ensures.answer)

pub returns-in_err-push_explicit-2 : goal.returns-in_err-push_explicit-2
returns-in_err-push_explicit-2 c =
    let p = err_from_is_err_and c.from_residual-in_err-push_explicit-2.result c.from_residual-in_err-push_explicit-2.ensures.1 in
    let tbs = c.args.self.now in
    rw (p.1, p.2) (refuses_last (inner_key tbs.subject_public_key_info.subject_public_key)
    (inner_option inner_extensions tbs.extensions) _ c.in_ok-push_value-6.ensures.answer.1 c.in_err-push_explicit-2.ensures.answer)
