use Rattle.std.proofs.lemmas.Result.{err_from_is_err_and}
use Rattle.std.proofs.Common.{◌≡◌}
use Rattle.der_core.specs.Facts.Lists.{list_refused}
use Rattle.asn1_types.specs.Elements.{bit_string}
use Rattle.asn1_types.specs.declared.bit_string.BitString.{BitString}
use Rattle.key_types.specs.AlgorithmIdentifier.{algorithm_identifier}
use Rattle.key_types.specs.declared.algorithm.AlgorithmIdentifier.{AlgorithmIdentifier}
use Rattle.x509_types.specs.TbsCertificate.{IsTbsCertificate}
use Rattle.x509_types.specs.Certificate.{IsCertificate}
use Rattle.x509_types.proofs.Signed.{by_three, of_three}
use Rattle.x509_types.proofs.certificate.CertificateStructure.read_at.Goals as goal

pub returns-in_err-tbs_certificate : goal.returns-in_err-tbs_certificate
returns-in_err-tbs_certificate c =
    let p = err_from_is_err_and c.from_residual-in_err-tbs_certificate.result c.from_residual-in_err-tbs_certificate.ensures.1 in
    rw (p.1, p.2) (list_refused (IsTbsCertificate c.in-Some.tbs.is.0) (IsCertificate c.args.elem.is.0) _
    (λ cert q. (cert.tbs_certificate, (by_three _ _ _ _ cert c.in-Some.ensures q).0)) c.in_err-tbs_certificate.ensures)

pub returns-in_err-signature_algorithm : goal.returns-in_err-signature_algorithm
returns-in_err-signature_algorithm c =
    let p = err_from_is_err_and c.from_residual-in_err-signature_algorithm.result c.from_residual-in_err-signature_algorithm.ensures.1 in
    rw (p.1, p.2) (list_refused (λ (a : AlgorithmIdentifier). c.in-Some.algorithm.is.0 ≡ algorithm_identifier a) (IsCertificate c.args.elem.is.0) _
    (λ cert q. (cert.signature_algorithm, (by_three _ _ _ _ cert c.in-Some.ensures q).1)) c.in_err-signature_algorithm.ensures)

pub returns-in_err-signature_value : goal.returns-in_err-signature_value
returns-in_err-signature_value c =
    let p = err_from_is_err_and c.from_residual.result c.from_residual.ensures.1 in
    rw (p.1, p.2) (list_refused (λ (b : BitString). c.in-Some.value.is.0 ≡ bit_string b) (IsCertificate c.args.elem.is.0) _
    (λ cert q. (cert.signature_value, (by_three _ _ _ _ cert c.in-Some.ensures q).2)) c.in_err-signature_value.ensures)

pub returns : goal.returns
returns c = of_three _ _ _ _ _ c.in-Some.ensures c.in_ok-tbs_certificate.ensures c.in_ok-signature_algorithm.ensures c.in_ok-signature_value.ensures
