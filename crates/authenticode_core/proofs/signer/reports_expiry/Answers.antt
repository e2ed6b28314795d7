use Rattle.authenticode_core.proofs.SignerOrder.{returns_so}
use Rattle.authenticode_core.proofs.signer.reports_expiry.Goals as goal

pub returns-in-InvalidCertificate : goal.returns-in-InvalidCertificate
returns-in-InvalidCertificate c = returns_so c.args.error.now _ c.in-InvalidCertificate.source c.is_expiry.result c.in-InvalidCertificate.is c.is_expiry.ensures
