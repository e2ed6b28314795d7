use Rattle.name_types.specs.Name.{attribute_type_and_value}
use Rattle.der_core.specs.Facts.Lists.{plain_list}
use Rattle.name_types.proofs.relative_name.RelativeDistinguishedNameStructure.write.Goals as goal

pub returns : goal.returns
returns c = plain_list attribute_type_and_value 0x31 _ _ c.self.view_is _ c.write_list.ensures
