use Rattle.name_types.specs.Name.{relative_distinguished_name}
use Rattle.der_core.specs.Facts.Lists.{plain_list}
use Rattle.name_types.proofs.name.NameStructure.write.Goals as goal

pub returns : goal.returns
returns c = plain_list relative_distinguished_name 0x30 _ _ c.self.view_is _ c.write_list.ensures
