use Rattle.std.proofs.Common.{arith}
use Rattle.demo_core.specs.Acceptance.{IsRootAt}
use Rattle.der_core.proofs.Counting.{count_low, count_more}
use Rattle.demo_core.proofs.acceptance.root_count.Goals as goal

pub counted-roots-requires : goal.counted-roots-requires
counted-roots-requires c =
    record { few = count_low (IsRootAt c.args.steps.now) c.loop-k.k c.loop-k.roots 255 c.loop-k.invariant (omega (arith, c.loop-k-test.true, c.requires.few)) }

pub loop-k-preserved : goal.loop-k-preserved
loop-k-preserved c =
    count_more (IsRootAt c.args.steps.now) c.loop-k.k c.loop-k.roots c.is_root.result c.counted-roots.result c.loop-k.invariant c.is_root.ensures
    c.counted-roots.ensures.one c.counted-roots.ensures.none
