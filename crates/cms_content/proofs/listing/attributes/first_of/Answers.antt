use Rattle.std.proofs.Common.{◌<◌, refl, length, arith}
use Rattle.std.proofs.lemmas.Bool.{iff_false}
use Rattle.std.proofs.lemmas.Option.{slice_get_read}
use Rattle.cms_content.proofs.FirstMembers.{first_at, none_at_all, none_yet}
use Rattle.cms_content.proofs.listing.attributes.first_of.Goals as goal

pub returns-then-is_of_kind : goal.returns-then-is_of_kind
returns-then-is_of_kind c =
    let less : c.loop-attribute.attribute-index < length c.args.attributes.now = omega arith in
    first_at _ c.args.attributes.now c.loop-attribute.attribute-index c.attribute-item.result c.loop-attribute.invariant
    (slice_get_read _ _ _ _ refl less c.attribute-item.is) (c.is_of_kind.ensures.0 c.if-is_of_kind.true)

pub loop-attribute-preserved : goal.loop-attribute-preserved
loop-attribute-preserved c =
    let less : c.loop-attribute.attribute-index < length c.args.attributes.now = omega arith in
    none_yet _ c.args.attributes.now c.loop-attribute.attribute-index _ c.attribute-item.result (omega arith) c.loop-attribute.invariant
    (slice_get_read _ _ _ _ refl less c.attribute-item.is) (iff_false c.is_of_kind.ensures c.if-is_of_kind.false)

pub returns : goal.returns
returns c = none_at_all _ c.args.attributes.now c.loop-attribute.attribute-index c.loop-attribute.invariant (omega arith)
