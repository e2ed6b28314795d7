use Rattle.std.proofs.lemmas.Grind.{merely, not_there}
use Rattle.x509_types.proofs.Viewed.{known_fits}
use Rattle.x509_types.proofs.certificate.view.CertView.of_known.Goals as goal

pub unreachable-requires : goal.unreachable-requires
unreachable-requires c = not_there c.requires (λ fit. c.in-None.ensures fit.1.elements fit.1.is)

pub invariant_of-result : goal.invariant_of-result
invariant_of-result c = record { fits = known_fits _ _ c.in-Some.ensures c.requires; first = merely c.of-firsts.ensures }

pub returns : goal.returns
returns c = record { is = c.in-Some.ensures; fits = known_fits _ _ c.in-Some.ensures c.requires }
