use Rattle.std.proofs.Common.{refl}
use Rattle.asn1_types.specs.Elements.{object_identifier}
use Rattle.der_core.specs.Facts.Lists.{plain_list}
use Rattle.extension_types.proofs.extended_key_usage.ExtendedKeyUsageStructure.write.Goals as goal

pub returns : goal.returns
returns c = plain_list object_identifier 0x30 _ _ refl _ c.write_list.ensures
