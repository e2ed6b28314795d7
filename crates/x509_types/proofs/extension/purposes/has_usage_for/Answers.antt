use Rattle.std.proofs.Common.{refl}
use Rattle.std.proofs.lemmas.Bool.{iff_false}
use Rattle.x509_types.proofs.Somewhere.{some_here, some_later, some_passed, none_there}
use Rattle.x509_types.proofs.extension.purposes.has_usage_for.Goals as goal

pub returns-then-is_usage_for : goal.returns-then-is_usage_for
returns-then-is_usage_for c =
    (λ w. c.loop-kid.invariant.enough (some_here _ _ _ _ c.in-Some.ensures (c.is_usage_for.ensures.0 c.if-is_usage_for.true)), λ has. refl)

pub loop-kid-preserved : goal.loop-kid-preserved
loop-kid-preserved c = record {
  enough = λ there. c.loop-kid.invariant.enough (some_later _ _ _ _ c.in-Some.ensures there);
  needed = λ there. some_passed _ _ _ _ c.in-Some.ensures (iff_false c.is_usage_for.ensures c.if-is_usage_for.false) (c.loop-kid.invariant.needed there);
}

pub returns : goal.returns
returns c = (λ w. absurd cc, λ has. absurd (none_there _ _ c.in_default.ensures.0 (c.loop-kid.invariant.needed has)))
