use Rattle.std.proofs.Common.{arith}
use Rattle.ca_register.proofs.Records.{issued_at, root_at}
use Rattle.ca_register.proofs.Walking.{usable_itself, usable_more, usable_whole}
use Rattle.ca_register.proofs.usable.usable_from.Goals as goal

pub loop-above-init : goal.loop-above-init
loop-above-init c = record {
  within = c.requires.within;
  usable = usable_itself c.args.entries.now c.args.place c.entry_at-grant.result c.entry_at-grant.ensures;
}

pub entry_at-over-requires : goal.entry_at-over-requires
entry_at-over-requires c =
    let earlier = c.requires.ordered c.loop-above.at c.in-Some.above
    (issued_at c.args.entries.now c.loop-above.at c.in-Some.above c.entry_at.result c.entry_at.ensures c.in-Some.is) in
    record { within = omega (arith, earlier, c.loop-above.invariant.within) }

pub loop-above-smaller : goal.loop-above-smaller
loop-above-smaller c = c.requires.ordered c.loop-above.at c.in-Some.above
    (issued_at c.args.entries.now c.loop-above.at c.in-Some.above c.entry_at.result c.entry_at.ensures c.in-Some.is)

pub loop-above-preserved : goal.loop-above-preserved
loop-above-preserved c =
    let earlier = c.requires.ordered c.loop-above.at c.in-Some.above
    (issued_at c.args.entries.now c.loop-above.at c.in-Some.above c.entry_at.result c.entry_at.ensures c.in-Some.is) in
    record {
      within = omega (arith, earlier, c.loop-above.invariant.within);
      usable = usable_more c.args.entries.now c.args.place c.loop-above.at c.in-Some.above c.loop-above.from c.loop-above.to c.loop-above.invariant.usable
          c.entry_at.result c.entry_at.ensures c.in-Some.is
          c.entry_at-over.result c.entry_at-over.ensures c.later-from.result c.earlier-to.result c.later-from.ensures.either c.later-from.ensures.latest
          c.earlier-to.ensures.either c.earlier-to.ensures.earliest;
    }

pub returns : goal.returns
returns c = usable_whole c.args.entries.now c.args.place c.loop-above.at c.loop-above.from c.loop-above.to c.loop-above.invariant.usable
    (root_at c.args.entries.now c.loop-above.at c.entry_at.result c.entry_at.ensures c.in_default.is) c.requires.ordered c.requires.within
