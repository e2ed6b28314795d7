use Rattle.std.proofs.Common.{ap, ◌∙◌}
use Rattle.x509_issuing.specs.OwnedRequest.{kept_request}
use Rattle.x509_issuing.proofs.ReadCsrs.{same_csrs}
use Rattle.x509_issuing.proofs.csr.CsrPartialEq.eq.Goals as goal

pub returns-clause-same : goal.returns-clause-same
returns-clause-same c =
    same_csrs _ _ c.self.inside.kept c.other.inside.kept _ (c.self.inside.around.1.0 ∙ ap kept_request c.self.view_is)
    (c.other.inside.around.1.0 ∙ ap kept_request c.other.view_is) c.eq.ensures.same
