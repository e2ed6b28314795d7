use Rattle.std.proofs.Common.{subst}
use Rattle.key_types.specs.declared.algorithm.AlgorithmIdentifier.{AlgorithmIdentifier}
use Rattle.key_core.specs.SignatureAlgorithm.{IsUnnamed, NamesSignature}
use Rattle.x509_core.proofs.SignedParts.{unsupported, accepted_or_not}
use Rattle.x509_core.proofs.viewed.ViewedCert.expect_signed_by.Goals as goal

pub returns-in-Err : goal.returns-in-Err
returns-in-Err g c =
    unsupported (g.S.Scheme.judge c.args.scheme.now) c.args.parent.now.cert.now c.args.self.now.cert.now c.in-Err.source c.signature_refusal.result
    (subst (λ (id : AlgorithmIdentifier). IsUnnamed id c.in-Err.source) c.outer_algorithm.ensures c.in-Err.ensures.answer) c.signature_refusal.ensures

pub returns-in-Ok : goal.returns-in-Ok
returns-in-Ok g c =
    accepted_or_not (g.S.Scheme.judge c.args.scheme.now) c.args.parent.now.cert.now c.args.self.now.cert.now c.in-Ok.algorithm c.expect_accepted.result
    (subst (λ (id : AlgorithmIdentifier). NamesSignature id c.in-Ok.algorithm) c.outer_algorithm.ensures c.in-Ok.ensures.answer) c.expect_accepted.ensures
