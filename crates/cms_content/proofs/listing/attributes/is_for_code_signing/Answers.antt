use Rattle.std.proofs.Common.{◌<◌, refl, length, arith}
use Rattle.std.proofs.lemmas.Bool.{iff_false}
use Rattle.std.proofs.lemmas.Option.{slice_get_read}
use Rattle.cms_content.proofs.FirstMembers.{none_yet, not_at_all, yes_at}
use Rattle.cms_content.proofs.listing.attributes.is_for_code_signing.Goals as goal

pub returns-then-is_code_signing : goal.returns-then-is_code_signing
returns-then-is_code_signing c =
    let less : c.loop-purpose.purpose-index < length c.args.purposes.now = omega arith in
    yes_at _ c.args.purposes.now c.loop-purpose.purpose-index c.purpose-item.result (slice_get_read _ _ _ _ refl less c.purpose-item.is)
    (c.is_code_signing.ensures.0 c.if-is_code_signing.true)

pub loop-purpose-preserved : goal.loop-purpose-preserved
loop-purpose-preserved c =
    let less : c.loop-purpose.purpose-index < length c.args.purposes.now = omega arith in
    none_yet _ c.args.purposes.now c.loop-purpose.purpose-index _ c.purpose-item.result (omega arith) c.loop-purpose.invariant
    (slice_get_read _ _ _ _ refl less c.purpose-item.is) (iff_false c.is_code_signing.ensures c.if-is_code_signing.false)

pub returns : goal.returns
returns c = not_at_all _ c.args.purposes.now c.loop-purpose.purpose-index c.loop-purpose.invariant (omega arith)
