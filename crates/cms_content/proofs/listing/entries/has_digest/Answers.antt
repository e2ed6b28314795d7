use Rattle.std.proofs.Common.{◌<◌, refl, length, arith}
use Rattle.std.proofs.lemmas.Bool.{iff_false}
use Rattle.std.proofs.lemmas.Option.{slice_get_read}
use Rattle.cms_content.proofs.FirstMembers.{none_yet, not_at_all, yes_at}
use Rattle.cms_content.proofs.listing.entries.has_digest.Goals as goal

pub returns-then-is_digest : goal.returns-then-is_digest
returns-then-is_digest c =
    let less : c.loop-attribute.attribute-index < length c.args.attributes.now = omega arith in
    yes_at _ c.args.attributes.now c.loop-attribute.attribute-index c.attribute-item.result (slice_get_read _ _ _ _ refl less c.attribute-item.is)
    (c.is_digest.ensures.0 c.if-is_digest.true)

pub loop-attribute-preserved : goal.loop-attribute-preserved
loop-attribute-preserved c =
    let less : c.loop-attribute.attribute-index < length c.args.attributes.now = omega arith in
    none_yet _ c.args.attributes.now c.loop-attribute.attribute-index _ c.attribute-item.result (omega arith) c.loop-attribute.invariant
    (slice_get_read _ _ _ _ refl less c.attribute-item.is) (iff_false c.is_digest.ensures c.if-is_digest.false)

pub returns : goal.returns
returns c = not_at_all _ c.args.attributes.now c.loop-attribute.attribute-index c.loop-attribute.invariant (omega arith)
