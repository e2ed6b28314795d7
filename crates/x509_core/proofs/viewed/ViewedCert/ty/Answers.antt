use Rattle.std.proofs.Common.{subst}
use Rattle.x509_core.specs.CertType.{IsOfType}
use Rattle.x509_core.proofs.viewed.ViewedCert.ty.Goals as goal

pub returns : goal.returns
returns c = subst (λ f. IsOfType f c.of.result) c.args.self.now.same c.of.ensures
