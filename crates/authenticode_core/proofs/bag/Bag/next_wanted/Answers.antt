use Rattle.std.proofs.Common.{arith}
use Rattle.std.proofs.lemmas.Bool.{iff_false}
use Rattle.authenticode_core.proofs.IndexSteps.{none_behind, none_yet}
use Rattle.authenticode_core.proofs.bag.Bag.next_wanted.Goals as goal

pub returns-then-is-clause-least : goal.returns-then-is-clause-least
returns-then-is-clause-least c = λ bag s.
    let invariant = c.loop-next.invariant in
    let places = c.in-Some.ensures.place in (
      record {
        later = omega (arith, invariant.later, places.0);
        stands = c.in-Some.ensures.next bag (invariant.stands bag s);
        fits = c.is.ensures.0 c.if-is.true;
        least = λ place d later before at fits. invariant.none bag s place d later (omega (arith, before, places.0)) at fits;
      },
      places.1,
    )

pub returns-then-is-clause-fewer : goal.returns-then-is-clause-fewer
returns-then-is-clause-fewer c = omega (arith, c.in-Some.ensures.fewer, c.loop-next.invariant.shorter)

pub loop-next-preserved : goal.loop-next-preserved
loop-next-preserved c =
    let invariant = c.loop-next.invariant in
    let places = c.in-Some.ensures.place in
    record {
      stands = λ bag s. c.in-Some.ensures.stands bag (invariant.stands bag s);
      shorter = omega (arith, c.in-Some.ensures.fewer, invariant.shorter);
      later = omega (arith, invariant.later, places.0, places.1);
      none = λ bag s place d later before at fits.
          none_yet bag _ _ c.in-Some.next.place _
          (λ other e later' before' at' fits'. invariant.none bag s other e later' (omega (arith, before', places.0)) at' fits')
          (c.in-Some.ensures.next bag (invariant.stands bag s)) (iff_false c.is.ensures c.if-is.false) place d later (omega (arith, before, places.1)) at fits;
    }

pub returns-clause-least : goal.returns-clause-least
returns-clause-least c = λ bag s.
    none_behind bag _ _ _ (c.loop-next.invariant.none bag s) (c.in_default.ensures.next bag (c.loop-next.invariant.stands bag s))
