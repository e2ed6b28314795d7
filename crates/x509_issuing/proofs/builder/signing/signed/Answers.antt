use Rattle.std.proofs.Common.{refl}
use Rattle.std.proofs.lemmas.Result.{err_from_is_err_and}
use Rattle.x509_types.specs.declared.certificate.Certificate.{Certificate}
use Rattle.x509_issuing.proofs.MadeCertificates.{made_or_not, not_made}
use Rattle.x509_issuing.proofs.builder.signing.signed.Goals as goal

pub returns-in_err-signature_value : goal.returns-in_err-signature_value
returns-in_err-signature_value g c =
    let p = err_from_is_err_and c.from_residual.result c.from_residual.ensures.1 in
    rw (p.1, p.2) (not_made (g.S.Scheme.judge c.args.scheme.now) (g.S.Scheme.signs c.args.scheme.now) (g.S.Scheme.pair c.args.scheme.now)
    c.args.algorithm c.args.private_key.now c.args.tbs c.in_err-signature_value.field-0.0
    c.in_err-signature_value.ensures.answer)

pub returns : goal.returns
returns g c =
    let certificate : Certificate = record {
      tbs_certificate = c.args.tbs;
      signature_algorithm = c.in_ok-signature_algorithm.signature_algorithm;
      signature_value = c.in_ok-signature_value.signature_value;
    } in
    let of = c.in_ok-signature_value.ensures.answer in
    made_or_not (g.S.Scheme.judge c.args.scheme.now) (g.S.Scheme.signs c.args.scheme.now) (g.S.Scheme.pair c.args.scheme.now)
    c.args.algorithm c.args.private_key.now c.args.tbs certificate c.from_certificate.result
    refl c.in_ok-signature_algorithm.ensures of.0 of.1 of.2 of.3 c.in_ok-signature_value.ensures.accepted c.from_certificate.ensures
