use Rattle.std.proofs.lemmas.Result.{err_from_is_err_and}
use Rattle.der_core.proofs.Inner.{refuses_before, refuses_last}
use Rattle.key_types.specs.PublicKeyInfo.{inner_key}
use Rattle.der_core.specs.Optional.{inner_option}
use Rattle.x509_types.specs.Attribute.{inner_attributes}
use Rattle.x509_issuing.proofs.request_info.CertificationRequestInfoStructure.write.Goals as goal

pub returns-in_err-write-2 : goal.returns-in_err-write-2
returns-in_err-write-2 c =
    let p = err_from_is_err_and c.from_residual-in_err-write-2.result c.from_residual-in_err-write-2.ensures.1 in
    let info = c.args.self.now in
    rw (p.1, p.2)
    (refuses_before (inner_key info.subject_public_key_info.subject_public_key) (inner_option inner_attributes info.attributes) _ c.in_err-write-2.ensures)

pub returns-in_err-push_attributes : goal.returns-in_err-push_attributes
returns-in_err-push_attributes c =
    let p = err_from_is_err_and c.from_residual-in_err-push_attributes.result c.from_residual-in_err-push_attributes.ensures.1 in
    let info = c.args.self.now in
    rw (p.1, p.2) (refuses_last (inner_key info.subject_public_key_info.subject_public_key)
    (inner_option inner_attributes info.attributes) _ c.in_ok-write-2.ensures.2 c.in_err-push_attributes.ensures)
