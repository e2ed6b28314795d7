use Rattle.std.proofs.Common.{refl}
use Rattle.x509_issuing.specs.declared.request.CertificationRequest.{CertificationRequest}
use Rattle.x509_issuing.proofs.Generating.{made, accepted}
use Rattle.x509_issuing.proofs.csr.generating.signed.Goals as goal

pub returns-clause-answer : goal.returns-clause-answer
returns-clause-answer g c =
    let r : CertificationRequest = record {
      certification_request_info = c.args.info;
      signature_algorithm = c.in_ok-signature_algorithm.signature_algorithm;
      signature = c.in_ok-signature.signature;
    } in
    let of = c.in_ok-signature.ensures.answer in
    made (g.S.Scheme.judge c.args.scheme.now) (g.S.Scheme.signs c.args.scheme.now) (g.S.Scheme.pair c.args.scheme.now)
    c.args.private_key.now c.args.algorithm r c.from_certification_request.result of.1 of.2
    (record { info_is = refl; algorithm_is = c.in_ok-signature_algorithm.ensures; unused = of.0; accepted = c.in_ok-signature.ensures.verifies })
    c.from_certification_request.ensures

pub returns-clause-verifies : goal.returns-clause-verifies
returns-clause-verifies g c =
    let r : CertificationRequest = record {
      certification_request_info = c.args.info;
      signature_algorithm = c.in_ok-signature_algorithm.signature_algorithm;
      signature = c.in_ok-signature.signature;
    } in
    accepted (g.S.Scheme.judge c.args.scheme.now) (g.S.Scheme.pair c.args.scheme.now)
    c.args.private_key.now c.args.algorithm r c.from_certification_request.result _ c.in_ok-signature.ensures.verifies c.from_certification_request.ensures
