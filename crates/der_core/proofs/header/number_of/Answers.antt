use Rattle.std.proofs.Common.{◌≡◌, ℕ, ◌+◌, ◌*◌, ◌^◌, ◌<◌, ◌≤◌, drop, get_or, sym, ◌∙◌, arith}
use Rattle.std.proofs.Math.Pow.{pow_mono}
use Rattle.std.proofs.lemmas.Nat.{pow-add}
use Rattle.std.proofs.lemmas.List.{at_drop_more}
use Rattle.der_core.specs.Head.{number_from}
use Rattle.der_core.proofs.header.number_of.Goals as goal

-- A number of at most three digits is below 2 ^ 24.
few_digits : (i n : ℕ) → n < 2 ^ (8 * i) → i < 4 → n < 2 ^ 24
few_digits i n below few =
    let at_most : 8 * i ≤ 24 = omega arith in
    let bound : 2 ^ (8 * i) ≤ 2 ^ 24 = pow_mono at_most in
    omega arith

one_more : (i n digit : ℕ) → n < 2 ^ (8 * i) → digit < 256 → n * 256 + digit < 2 ^ (8 * (i + 1))
one_more i n digit below fits =
    let next : 2 ^ (8 * i + 8) ≡ 2 ^ (8 * i) * 2 ^ 8 = pow-add 2 (8 * i) 8 in
    let same : 8 * (i + 1) ≡ 8 * i + 8 = omega arith in
    rw same (omega arith)

pub overflow_mul-number : goal.overflow_mul-number
overflow_mul-number c = omega (arith, few_digits c.loop-digit.digit-index c.loop-digit.number c.loop-digit.invariant.small (omega arith))

pub overflow_add-number : goal.overflow_add-number
overflow_add-number c = omega
    (arith, few_digits c.loop-digit.digit-index c.loop-digit.number c.loop-digit.invariant.small (omega arith), c.type_inv.digits c.loop-digit.digit-index)

pub loop-digit-preserved : goal.loop-digit-preserved
loop-digit-preserved c =
    let i = c.loop-digit.digit-index in
    let n = c.loop-digit.number in
    let digits = c.args.digits.now in
    let split : number_from n (drop i digits) ≡ number_from (n * 256 + get_or digits i 0) (drop (i + 1) digits) =
    at_drop_more (number_from n) digits i 0 c.loop-digit-test.true in
    record {
      small = one_more i n c.from.result c.loop-digit.invariant.small (omega (arith, c.type_inv.digits i));
      goes_on = rw c.from.ensures (sym split ∙ c.loop-digit.invariant.goes_on);
    }
