use Rattle.std.proofs.Common.{subst}
use Rattle.der_core.specs.Rules.{IsFirstBroken}
use Rattle.x509_types.specs.CertificateElements.{CertificateElements}
use Rattle.x509_core.specs.Window.{window_rules}
use Rattle.x509_core.proofs.SignedParts.{returned_of}
use Rattle.x509_core.proofs.Validity.{valid_is_met}
use Rattle.x509_core.proofs.viewed.ViewedCert.expect_valid.Goals as goal

pub returns-in-Err : goal.returns-in-Err
returns-in-Err c =
    let w = c.args.window.now in
    let kept = c.args.self.now.cert.now in
    let broken = subst (λ (f : CertificateElements). IsFirstBroken (window_rules w f) c.in-Err.cause) c.args.self.now.same c.in-Err.ensures in
    record {
      answer = returned_of kept (IsFirstBroken (window_rules w kept.elements)) c.in-Err.cause c.invalid.result broken c.invalid.ensures;
      valid = λ within. valid_is_met w kept.elements c.in-Err.cause within broken;
    }
