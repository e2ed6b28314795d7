use Rattle.std.proofs.Common.{ap, ◌∙◌}
use Rattle.der_core.specs.Encoding.{encoding}
use Rattle.x509_types.proofs.certificate.view.CertView.tbs.Goals as goal

pub returns : goal.returns
returns c = c.args.self.now.parts.tbs.is.1.1 ∙ ap encoding c.args.self.now.parts.signed
