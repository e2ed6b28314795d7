use Rattle.cms_types.specs.CertificateChoices.{certificate_choice}
use Rattle.cms_types.specs.Facts.Choices.{certificate_choices}
use Rattle.cms_types.proofs.Equal.{by_kept}
use Rattle.cms_types.proofs.signed_data.certificate_choices.CertificateChoicesPartialEq.eq.Goals as goal

pub returns-clause-same : goal.returns-clause-same
returns-clause-same c =
    by_kept certificate_choice certificate_choices c.args.self.now c.args.other.now _ _ _ c.element.ensures c.element-2.ensures c.eq.ensures.same
