use Rattle.cms_types.specs.UnsignedAttribute.{unsigned_attribute}
use Rattle.cms_types.specs.Facts.UnsignedAttributes.{unsigned_attributes}
use Rattle.cms_types.proofs.Equal.{by_octets, by_element}
use Rattle.cms_types.proofs.unsigned_attribute.UnsignedAttributePartialEq.eq.Goals as goal

pub returns-clause-octets : goal.returns-clause-octets
returns-clause-octets c = by_octets unsigned_attribute unsigned_attributes c.args.self.now c.args.other.now _ c.is_same.ensures

pub returns-clause-written : goal.returns-clause-written
returns-clause-written c = by_element unsigned_attribute unsigned_attributes c.args.self.now c.args.other.now _ c.is_same.ensures
