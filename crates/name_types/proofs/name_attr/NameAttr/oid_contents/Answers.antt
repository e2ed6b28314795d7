use Rattle.name_types.proofs.AttributeTypes.{contents_of-type}
use Rattle.name_types.proofs.name_attr.NameAttr.oid_contents.Goals as goal
use Rattle.std.proofs.Common.{◌∙◌}

pub returns : goal.returns
returns c = c.row.ensures.octets ∙ contents_of-type c.args.self
