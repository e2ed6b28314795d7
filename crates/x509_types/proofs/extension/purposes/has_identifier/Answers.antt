use Rattle.std.proofs.Common.{refl}
use Rattle.x509_types.proofs.Somewhere.{some_here, some_later, some_passed, none_there}
use Rattle.x509_types.proofs.extension.purposes.has_identifier.Goals as goal

pub returns-in-Some-expect_leaf : goal.returns-in-Some-expect_leaf
returns-in-Some-expect_leaf c = (λ w. c.loop-kid.invariant.enough (some_here _ _ _ _ c.in-Some.ensures c.in-Some-expect_leaf.ensures), λ has. refl)

pub loop-kid-preserved : goal.loop-kid-preserved
loop-kid-preserved c = record {
  enough = λ there. c.loop-kid.invariant.enough (some_later _ _ _ _ c.in-Some.ensures there);
  needed = λ there. some_passed _ _ _ _ c.in-Some.ensures c.in_default-expect_leaf.ensures (c.loop-kid.invariant.needed there);
}

pub returns : goal.returns
returns c = (λ w. absurd cc, λ has. absurd (none_there _ _ c.in_default.ensures.0 (c.loop-kid.invariant.needed has)))
