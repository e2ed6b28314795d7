use Rattle.x509_types.proofs.FoundSoFar.{some_found}
use Rattle.x509_types.proofs.certificate.view.CertView.has_purposes.Goals as goal

pub returns : goal.returns
returns c = some_found _ _ _ _ _ c.is_some.ensures c.args.self.now.first (λ found. found.purposes)
