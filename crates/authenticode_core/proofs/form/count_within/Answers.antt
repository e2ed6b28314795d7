use Rattle.std.proofs.Common.{◌<◌, ◌^◌, ℕ, length, sym, ap, subst, arith}
use Rattle.authenticode_core.proofs.BagSteps.{counted_kids}
use Rattle.authenticode_core.proofs.FormSteps.{members_are}
use Rattle.authenticode_core.proofs.form.count_within.Goals as goal

pub loop-kid-init : goal.loop-kid-init
loop-kid-init c =
    let same = ap length (members_are c.args.elem.is.0 c.in-Some.kids.are.0 c.in-Some.ensures) in
    record {
      all = omega (arith, same);
      bounded = subst (λ (n : ℕ). n < 2 ^ 32) (sym same) (counted_kids c.args.elem.is.0 c.in-Some.kids.are.0 c.args.elem.is.1.0 c.in-Some.ensures);
    }
