use Rattle.std.proofs.Common.{arith}
use Rattle.ca_register.specs.Counting.{IsAcceptedAt, IsUsableAt}
use Rattle.der_core.proofs.Counting.{count_low, count_more}
use Rattle.ca_register.proofs.counting.accepted_count.Goals as goal

pub counted-accepted-requires : goal.counted-accepted-requires
counted-accepted-requires g c =
    record {
      few = count_low (IsUsableAt c.args.register.now.entries.items c.args.date.now) c.loop-place.place c.loop-place.accepted 200 c.loop-place.invariant.usable
          (omega (arith, c.loop-place-test.true, c.requires.few));
    }

pub loop-place-preserved : goal.loop-place-preserved
loop-place-preserved g c =
    let register = c.args.register.now in
    record {
      usable = count_more (IsUsableAt register.entries.items c.args.date.now)
          c.loop-place.place c.loop-place.accepted c.is_usable.result c.counted-accepted.result c.loop-place.invariant.usable c.is_usable.ensures.usable
          c.counted-accepted.ensures.one c.counted-accepted.ensures.none;
      accepted = λ is. count_more (IsAcceptedAt (g.S.Scheme.judge register.scheme) register.entries.items register.certificates.items c.args.date.now)
          c.loop-place.place c.loop-place.accepted c.is_usable.result c.counted-accepted.result
          (c.loop-place.invariant.accepted is) (c.is_usable.ensures.accepted is) c.counted-accepted.ensures.one c.counted-accepted.ensures.none;
    }
