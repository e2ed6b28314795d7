use Rattle.std.proofs.lemmas.Result.{err_from_is_err_and}
use Rattle.std.proofs.Common.{◌≡◌}
use Rattle.der_core.specs.Facts.Lists.{list_refused}
use Rattle.asn1_types.specs.Elements.{bit_string}
use Rattle.asn1_types.specs.declared.bit_string.BitString.{BitString}
use Rattle.key_types.specs.AlgorithmIdentifier.{algorithm_identifier}
use Rattle.key_types.specs.declared.algorithm.AlgorithmIdentifier.{AlgorithmIdentifier}
use Rattle.x509_issuing.specs.RequestInfo.{IsRequestInfo}
use Rattle.x509_issuing.specs.CertificationRequest.{IsRequest}
use Rattle.x509_issuing.proofs.Requested.{by_parts}
use Rattle.x509_issuing.proofs.request.CertificationRequestStructure.read_at.Goals as goal

pub returns-in_err-certification_request_info : goal.returns-in_err-certification_request_info
returns-in_err-certification_request_info c =
    let p = err_from_is_err_and c.from_residual-in_err-certification_request_info.result c.from_residual-in_err-certification_request_info.ensures.1 in
    rw (p.1, p.2) (list_refused (IsRequestInfo c.in-Some.info.is.0) (IsRequest c.args.elem.is.0) _
    (λ r q. (r.certification_request_info, (by_parts _ _ _ _ r c.in-Some.ensures q).0)) c.in_err-certification_request_info.ensures)

pub returns-in_err-signature_algorithm : goal.returns-in_err-signature_algorithm
returns-in_err-signature_algorithm c =
    let p = err_from_is_err_and c.from_residual-in_err-signature_algorithm.result c.from_residual-in_err-signature_algorithm.ensures.1 in
    rw (p.1, p.2) (list_refused (λ (a : AlgorithmIdentifier). c.in-Some.algorithm.is.0 ≡ algorithm_identifier a) (IsRequest c.args.elem.is.0) _
    (λ r q. (r.signature_algorithm, (by_parts _ _ _ _ r c.in-Some.ensures q).1)) c.in_err-signature_algorithm.ensures)

pub returns-in_err-signature : goal.returns-in_err-signature
returns-in_err-signature c =
    let p = err_from_is_err_and c.from_residual.result c.from_residual.ensures.1 in
    rw (p.1, p.2) (list_refused (λ (b : BitString). c.in-Some.value.is.0 ≡ bit_string b) (IsRequest c.args.elem.is.0) _
    (λ r q. (r.signature, (by_parts _ _ _ _ r c.in-Some.ensures q).2)) c.in_err-signature.ensures)
