use Rattle.authenticode_core.proofs.FirstAttributes.{attribute_here, attribute_later, attribute_passed, no_attribute}
use Rattle.authenticode_core.proofs.signature.attributes.first_values.Goals as goal

pub returns-in-Some-values_of : goal.returns-in-Some-values_of
returns-in-Some-values_of c = c.loop-attribute.invariant.enough _ (attribute_here _ _ _ _ _ c.in-Some.ensures c.in-Some-values_of.ensures)

pub loop-attribute-preserved : goal.loop-attribute-preserved
loop-attribute-preserved c = record {
  enough = λ values first. c.loop-attribute.invariant.enough values (attribute_later _ _ _ _ c.in-Some.ensures c.in_default-values_of.ensures values first);
  needed = λ values first. attribute_passed _ _ _ _ c.in-Some.ensures c.in_default-values_of.ensures values (c.loop-attribute.invariant.needed values first);
}

pub returns : goal.returns
returns c = λ values first. no_attribute _ _ values c.in_default.ensures.0 (c.loop-attribute.invariant.needed values first)
