use Rattle.std.proofs.Common.{ap, ◌∙◌}
use Rattle.der_core.specs.Encoding.{form_bit}
use Rattle.cms_types.proofs.signed_data.view.kids_of.Goals as goal

pub unreachable-requires : goal.unreachable-requires
unreachable-requires c = c.in-None.ensures (ap form_bit c.args.elem.is.1.2 ∙ c.requires)

pub returns : goal.returns
returns c = record { rest = c.in-Some.ensures.1 ∙ c.args.elem.is.1.3; place = c.in-Some.ensures.2; level = c.in-Some.ensures.3 }
