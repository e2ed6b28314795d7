use Rattle.authenticode_core.proofs.PassedIndices.{passed_none, passed_step, passed_found, passed_asks}
use Rattle.authenticode_core.proofs.bag.naming.find_on_walk.Goals as goal

pub loop-next-init : goal.loop-next-init
loop-next-init c = record { begun = λ others p. (others, p); passed = λ bag subject looks. passed_none bag subject _ _ looks }

pub loop-next-preserved : goal.loop-next-preserved
loop-next-preserved c = record {
  begun = λ others p. c.loop-next.invariant.begun _ (c.in-Some.ensures.begins.begun others p);
  passed = λ bag subject looks.
      passed_step bag subject _ _ _ _ _ _ _ _ _ (λ from x at. c.in-Some.ensures.next bag from x at) c.found_next-found.ensures c.asks_next-asks.ensures
      (c.loop-next.invariant.passed bag subject looks);
}

pub loop-next-smaller : goal.loop-next-smaller
loop-next-smaller c = c.in-Some.ensures.begins.fewer

pub returns-clause-ended : goal.returns-clause-ended
returns-clause-ended c = c.loop-next.invariant.begun _ c.in_default.ensures.begins

pub returns-clause-found : goal.returns-clause-found
returns-clause-found c = λ bag subject looks.
    passed_found bag subject _ _ _ _ (λ from x at. c.in_default.ensures.next bag from x at) (c.loop-next.invariant.passed bag subject looks)

pub returns-clause-asks : goal.returns-clause-asks
returns-clause-asks c = λ bag signer looks.
    passed_asks bag signer _ _ _ _ (λ from x at. c.in_default.ensures.next bag from x at) (c.loop-next.invariant.passed bag signer.tbs.subject looks)
