use Rattle.std.proofs.lemmas.Result.{err_from_is_err_and}
use Rattle.der_core.specs.Facts.Lists.{list_refused}
use Rattle.der_core.specs.BorrowedOption.{at_option}
use Rattle.name_types.specs.Name.{IsName}
use Rattle.key_types.specs.PublicKeyInfo.{IsPublicKeyInfo}
use Rattle.der_core.specs.Optional.{SpellsOption}
use Rattle.x509_types.specs.Attribute.{AreAttributes}
use Rattle.x509_issuing.specs.RequestInfo.{IsRequestInfo}
use Rattle.x509_issuing.proofs.Requested.{by_request_fields}
use Rattle.x509_issuing.proofs.request_info.CertificationRequestInfoStructure.read_at.Goals as goal

pub returns-in_err-subject : goal.returns-in_err-subject
returns-in_err-subject c =
    let p = err_from_is_err_and c.from_residual.result c.from_residual.ensures.1 in
    rw (p.1, p.2) (list_refused (IsName c.in-Some.fields.subject.is.0) (IsRequestInfo c.args.elem.is.0) _
    (λ info q. (info.subject, (by_request_fields _ _ _ _ info c.in-Some.ensures q).0)) c.in_err-subject.ensures)

pub returns-in_err-key : goal.returns-in_err-key
returns-in_err-key c =
    let p = err_from_is_err_and c.from_residual-in_err-key.result c.from_residual-in_err-key.ensures.1 in
    rw (p.1, p.2) (list_refused (IsPublicKeyInfo c.in-Some.fields.subject_public_key_info.is.0) (IsRequestInfo c.args.elem.is.0) _
    (λ info q. (info.subject_public_key_info, (by_request_fields _ _ _ _ info c.in-Some.ensures q).1)) c.in_err-key.ensures)

pub returns-in_err-attributes : goal.returns-in_err-attributes
returns-in_err-attributes c =
    let p = err_from_is_err_and c.from_residual-in_err-attributes.result c.from_residual-in_err-attributes.ensures.1 in
    rw (p.1, p.2) (list_refused (SpellsOption AreAttributes (at_option c.in-Some.fields.attributes)) (IsRequestInfo c.args.elem.is.0) _
    (λ info q. (info.attributes, (by_request_fields _ _ _ _ info c.in-Some.ensures q).2)) c.in_err-attributes.ensures)
