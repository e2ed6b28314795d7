use Rattle.std.proofs.Common.{List, length}
use Rattle.der_core.specs.DerElement.{DerElement}
use Rattle.authenticode_core.specs.SignedFields.{IsFirstAttribute}
use Rattle.authenticode_core.proofs.signature.attributes.first_values.Given as goal

-- the first of all is the first of the rest
abbrev pub invariant-loop-attribute : goal.invariant-loop-attribute
invariant-loop-attribute l = record {
  enough : (values : List DerElement) → IsFirstAttribute l.oid l.attributes.are.0 values → IsFirstAttribute l.oid l.initial.attributes.are.0 values;
  needed : (values : List DerElement) → IsFirstAttribute l.oid l.initial.attributes.are.0 values → IsFirstAttribute l.oid l.attributes.are.0 values;
}

abbrev pub decreases-loop-attribute : goal.decreases-loop-attribute
decreases-loop-attribute l = length l.attributes.are.0
