use Rattle.std.proofs.Common.{List, sym, subst}
use Rattle.x509_core.specs.OwnedCertificate.{KeptCertificate}
use Rattle.trust_anchors.specs.AnchoredPath.{IsAnchoredPath}
use Rattle.trust_anchors.proofs.Answered.{none_found}
use Rattle.trust_anchors.proofs.answering.search.Goals as goal

pub returns-in-Ok-None-clause-found : goal.returns-in-Ok-None-clause-found
returns-in-Ok-None-clause-found g c path is =
    none_found _ c.in-Ok-None.field-0 c.in-Ok-None.field-0-is c.in-Ok-None.ensures.found path
    (subst (λ (pool : List KeptCertificate). IsAnchoredPath (g.S.Scheme.judge c.args.scheme.now)
    c.args.asked.now.date c.args.given.now.checked pool c.args.given.now.anchors c.args.asked.now.purpose path)
    (sym c.deref.ensures.value) is)
