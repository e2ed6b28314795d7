use Rattle.std.proofs.Common.{ap, length, arith}
use Rattle.authenticode_core.proofs.BagSteps.{begins, begins_only, past, before_past}
use Rattle.authenticode_core.proofs.bag.next_certificate.Goals as goal

pub returns-in-Some-read : goal.returns-in-Some-read
returns-in-Some-read c =
    let view = c.in-Some-read.ensures in (
      view,
      record {
        fewer = omega (arith, ap length c.in-Some.ensures, c.loop-elem.invariant.shorter);
        begun = λ others p. c.loop-elem.invariant.enough _ (begins _ _ _ _ c.in-Some.ensures (record { is = view.is; fits = view.fits }) others p);
        only = λ bag p. begins_only _ _ _ _ c.in-Some.ensures (record { is = view.is; fits = view.fits }) bag (c.loop-elem.invariant.needed bag p);
      },
    )

pub loop-elem-preserved : goal.loop-elem-preserved
loop-elem-preserved c = record {
  enough = λ bag p. c.loop-elem.invariant.enough bag (before_past _ _ _ c.in-Some.ensures c.in_default-read.ensures bag p);
  needed = λ bag p. past _ _ _ c.in-Some.ensures c.in_default-read.ensures bag (c.loop-elem.invariant.needed bag p);
  shorter = omega (arith, ap length c.in-Some.ensures, c.loop-elem.invariant.shorter);
}
