use Rattle.std.proofs.Common.{◌<◌, refl, length, arith}
use Rattle.std.proofs.lemmas.Bool.{iff_false}
use Rattle.std.proofs.lemmas.Option.{slice_get_read}
use Rattle.cms_content.proofs.FirstMembers.{none_yet, not_at_all, yes_at}
use Rattle.authenticode_core.proofs.listing.is_among.Goals as goal

pub returns-then-is_named : goal.returns-then-is_named
returns-then-is_named c =
    let less : c.loop-one.one-index < length c.args.names.now = omega arith in
    yes_at _ c.args.names.now c.loop-one.one-index c.one-item.result (slice_get_read _ _ _ _ refl less c.one-item.is) (c.is_named.ensures.0 c.if-is_named.true)

pub loop-one-preserved : goal.loop-one-preserved
loop-one-preserved c =
    let less : c.loop-one.one-index < length c.args.names.now = omega arith in
    none_yet _ c.args.names.now c.loop-one.one-index _ c.one-item.result (omega arith) c.loop-one.invariant (slice_get_read _ _ _ _ refl less c.one-item.is)
    (iff_false c.is_named.ensures c.if-is_named.false)

pub returns : goal.returns
returns c = not_at_all _ c.args.names.now c.loop-one.one-index c.loop-one.invariant (omega arith)
