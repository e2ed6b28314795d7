use Rattle.std.proofs.Common.{ap, ◌∙◌}
use Rattle.x509_issuing.specs.OwnedRequest.{kept_request}
use Rattle.x509_issuing.specs.Facts.Csrs.{kept_once}
use Rattle.x509_issuing.proofs.csr.Csr.try_clone.Goals as goal

pub returns-in-Ok : goal.returns-in-Ok
returns-in-Ok c = kept_once _ _ (c.in-Ok.ensures.kept ∙ c.elem.ensures ∙ c.self.inside.around.1.0 ∙ ap kept_request c.self.view_is)
