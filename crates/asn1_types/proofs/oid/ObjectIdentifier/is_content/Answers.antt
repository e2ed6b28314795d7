use Rattle.std.proofs.Common.{sym, ◌∙◌}
use Rattle.std.proofs.lemmas.Bool.{eqb-true}
use Rattle.std.proofs.lemmas.List.{nil_from_length}
use Rattle.asn1_types.proofs.Subidentifiers.{after_shorter, are_where_rest, are_empty}
use Rattle.asn1_types.proofs.Identifiers.{all_read, some_left}
use Rattle.asn1_types.proofs.oid.ObjectIdentifier.is_content.Goals as goal

pub loop-after-smaller : goal.loop-after-smaller
loop-after-smaller c = after_shorter c.loop-after.rest.now c.in-Some.after.now _ c.in-Some.ensures.spelled

pub loop-after-preserved : goal.loop-after-preserved
loop-after-preserved c =
    let step = are_where_rest c.loop-after.rest.now c.in-Some.after.now _ c.in-Some.ensures.bounded c.in-Some.ensures.spelled in
    (λ are. step.0 (c.loop-after.invariant.0 are), λ are. c.loop-after.invariant.1 (step.1 are))

pub returns-then-is_empty : goal.returns-then-is_empty
returns-then-is_empty c =
    let none = nil_from_length c.loop-after.rest.now (eqb-true _ _ (sym c.is_empty.ensures ∙ c.if-is_empty.true)) in
    let formed = all_read c.args.bytes.now _ c.is_empty-then-is_empty.ensures (c.loop-after.invariant.1 (are_empty _ none)) in record {
      formed = formed;
    }

pub returns-else-is_empty : goal.returns-else-is_empty
returns-else-is_empty c = record {
  formed = some_left c.args.bytes.now c.loop-after.rest.now _ c.is_empty.ensures c.if-is_empty.false c.in_default.ensures
      c.loop-after.invariant.0;
}
