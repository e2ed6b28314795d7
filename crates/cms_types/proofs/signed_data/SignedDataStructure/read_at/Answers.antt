use Rattle.cms_types.proofs.Fields.{data_of_fields}
use Rattle.cms_types.proofs.SignerLaws.{level_of_data}
use Rattle.cms_types.proofs.signed_data.SignedDataStructure.read_at.Goals as goal

pub returns-in-Some : goal.returns-in-Some
returns-in-Some c = data_of_fields _ _ _ c.in-Some.ensures c.read.ensures

pub returns-in-None : goal.returns-in-None
returns-in-None c = λ d is. c.in-None.ensures _ (level_of_data _ d is)
