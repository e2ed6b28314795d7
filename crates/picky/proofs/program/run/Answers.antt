use Rattle.std.proofs.Common.{◌≡◌, ◌∙◌, ℕ, Some, refl, subst, sym}
use Rattle.demo_core.specs.Run.{IsRun}
use Rattle.program_frame.specs.Sink.{SinkState}
use Rattle.picky.proofs.program.run.Goals as goal

same_some : (x y : ℕ) → Some x ≡ Some y → x ≡ y
same_some x y e = cc

at_count : {S : Type 0} (state : S → SinkState) (out out_now : S) (status x y : ℕ) → Some x ≡ Some y → IsRun x state out out_now status
    → IsRun y state out out_now status
at_count state out out_now status x y e run = subst (λ (n : ℕ). IsRun n state out out_now status) (same_some x y e) run

pub returns-in-Some-clause-vouched_for : goal.returns-in-Some-clause-vouched_for
returns-in-Some-clause-vouched_for g c none zero = absurd (none c.in-Some.count (rw c.in-Some.is at c.count_of.ensures.asked))

pub returns-in-Some-clause-ends : goal.returns-in-Some-clause-ends
returns-in-Some-clause-ends g c none = absurd (none c.in-Some.count (rw c.in-Some.is at c.count_of.ensures.asked))

pub returns-in-Some-clause-demonstrated : goal.returns-in-Some-clause-demonstrated
returns-in-Some-clause-demonstrated g c count asked =
    (at_count g.O.Sink.state _ _ _ c.in-Some.count count (sym c.in-Some.is ∙ c.count_of.ensures.only count asked) c.run.ensures, refl)

pub returns-in-None-clause-demonstrated : goal.returns-in-None-clause-demonstrated
returns-in-None-clause-demonstrated g c count asked = absurd ((rw c.in-None.is at c.count_of.ensures.asked) count asked)
