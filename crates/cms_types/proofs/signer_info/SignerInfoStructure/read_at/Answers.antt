use Rattle.cms_types.proofs.Fields.{signer_of_fields}
use Rattle.cms_types.proofs.SignerLaws.{level_of_signer, no_value}
use Rattle.cms_types.proofs.signer_info.SignerInfoStructure.read_at.Goals as goal

pub returns-in-Some : goal.returns-in-Some
returns-in-Some c = signer_of_fields _ _ _ c.in-Some.ensures c.read.ensures

pub returns-in-None : goal.returns-in-None
returns-in-None c = λ s is. no_value (level_of_signer _ s is) (c.in-None.ensures _)
