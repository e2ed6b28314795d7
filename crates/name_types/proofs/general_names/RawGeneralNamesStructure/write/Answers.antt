use Rattle.name_types.specs.GeneralName.{general_name}
use Rattle.der_core.specs.Facts.Lists.{plain_list}
use Rattle.name_types.proofs.general_names.RawGeneralNamesStructure.write.Goals as goal

pub returns : goal.returns
returns c = plain_list general_name 0x30 _ _ c.self.view_is _ c.write_list.ensures
