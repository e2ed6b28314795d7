use Rattle.std.proofs.Common.{arith}
use Rattle.x509_core.specs.History.{IsValidAt}
use Rattle.der_core.proofs.Counting.{count_low, count_more}
use Rattle.demo_core.proofs.acceptance.accepted_count.Goals as goal

pub counted-accepted-requires : goal.counted-accepted-requires
counted-accepted-requires c =
    let history = c.requires.made.history in
    record {
      few = count_low (λ index. IsValidAt history index c.args.date.now) c.loop-k.k c.loop-k.accepted 255 (c.loop-k.invariant history c.requires.made.of)
          (omega (arith, c.loop-k-test.true, c.requires.few));
    }

pub loop-k-preserved : goal.loop-k-preserved
loop-k-preserved c = λ history of.
    count_more (λ index. IsValidAt history index c.args.date.now) c.loop-k.k c.loop-k.accepted c.in_ok-is_one.is_one c.counted-accepted.result
    (c.loop-k.invariant history of) (c.in_ok-is_one.ensures history of)
    c.counted-accepted.ensures.one c.counted-accepted.ensures.none
