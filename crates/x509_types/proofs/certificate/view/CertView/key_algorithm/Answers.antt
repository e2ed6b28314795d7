use Rattle.std.proofs.Common.{ap, sym, ◌∙◌}
use Rattle.std.specs.Prelude.{Some}
use Rattle.std.specs.Option.{option_map}
use Rattle.der_core.specs.Encoding.{encoding}
use Rattle.std.proofs.lemmas.Grind.{not_there}
use Rattle.x509_types.proofs.certificate.view.CertView.key_algorithm.Goals as goal

pub unreachable-requires : goal.unreachable-requires
unreachable-requires c =
    not_there c.args.self.now.fits (λ fit. c.in-None.ensures fit.0.tbs_certificate.subject_public_key_info fit.1.tbs.subject_public_key_info)

pub returns : goal.returns
returns c = ap (option_map encoding) c.in-Some.ensures.0 ∙ ap Some (sym c.in-Some.algorithm.is.1.1)
