use Rattle.std.proofs.lemmas.Grind.{not_there}
use Rattle.x509_types.proofs.certificate.view.CertView.key.Goals as goal

pub unreachable-requires : goal.unreachable-requires
unreachable-requires c =
    not_there c.args.self.now.fits (λ fit. c.in-None.ensures fit.0.tbs_certificate.subject_public_key_info fit.1.tbs.subject_public_key_info)
