use Rattle.std.proofs.lemmas.Grind.{not_there}
use Rattle.x509_types.proofs.certificate.view.CertView.not_before.Goals as goal

pub unreachable-requires : goal.unreachable-requires
unreachable-requires c = not_there c.args.self.now.fits (λ fit. c.in_default.ensures fit.0.tbs_certificate.validity fit.1.tbs.validity)
