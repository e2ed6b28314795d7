use Rattle.cms_types.specs.CertificateChoices.{certificate_choice}
use Rattle.cms_types.specs.Facts.Choices.{certificate_choices}
use Rattle.cms_types.proofs.Equal.{option_list_same}
use Rattle.cms_types.proofs.signed_data.are_same_certificates.Goals as goal

pub returns : goal.returns
returns c = option_list_same certificate_choice certificate_choices _ _ _ c.eq.ensures
