use Rattle.std.proofs.Common.{◌≡◌, ℕ, ◌+◌, ◌-◌, ◌<◌, length, sym, ◌∙◌, ap, refl, arith, rules}
use Rattle.std.proofs.lemmas.Bool.{iff_false, eqb-false}
use Rattle.std.proofs.lemmas.List.{length-append}
use Rattle.std.proofs.lemmas.Result.{err_from_is_err_and}
use Rattle.der_core.specs.DerElement.{Primitive, Constructed}
use Rattle.der_core.specs.Encoding.{encoding}
use Rattle.der_core.specs.Facts.Fronts.{some_octets}
use Rattle.der_core.specs.Facts.InnerFault.{ElementFault, KidsFault, First, Next}
use Rattle.der_core.proofs.Elements.{leaf_read, branch_read}
use Rattle.der_core.proofs.Faults.{fault_in, head_lengths, head_refused, kids_refused}
use Rattle.der_core.proofs.InOctets.{no_length, one_more_first, no_elements}
use Rattle.der_core.proofs.testing.+testing.Goals as goal

pub after_element-returns-in_err-head : goal.after_element-returns-in_err-head
after_element-returns-in_err-head t c =
    let p = err_from_is_err_and c.from_residual.result c.from_residual.ensures.1 in
    rw (p.1, p.2) (head_refused c.args.levels c.args.at c.args.octets.now c.in_err-head.field-0.0 c.in_err-head.ensures.0 c.in_err-head.ensures.1)

pub after_element-overflow_sub-inner : goal.after_element-overflow_sub-inner
after_element-overflow_sub-inner t c = omega (arith, head_lengths c.in_ok-head.ensures.1)

pub after_element-overflow_sub-inner-then-is_constructed : goal.after_element-overflow_sub-inner-then-is_constructed
after_element-overflow_sub-inner-then-is_constructed t c = omega (arith, head_lengths c.in_ok-head.ensures.1)

pub after_element-overflow_sub-levels : goal.after_element-overflow_sub-levels
after_element-overflow_sub-levels t c = c.in_ok-head.ensures.1.some

pub after_element-test_elements-requires : goal.after_element-test_elements-requires
after_element-test_elements-requires t c =
    let lengths = head_lengths c.in_ok-head.ensures.1 in
    (omega (arith, c.in_ok-head.ensures.1.some, c.decreases), omega (arith, c.requires))

pub after_element-returns-in_err-test_elements : goal.after_element-returns-in_err-test_elements
after_element-returns-in_err-test_elements t c =
    let p = err_from_is_err_and c.from_residual-in_err-test_elements.result c.from_residual-in_err-test_elements.ensures.1 in
    let bit = c.is_constructed.ensures.0 c.if-is_constructed.true in
    rw (p.1, p.2) (kids_refused c.args.at c.in_err-test_elements.field-0.0 c.in_ok-head.ensures.0 c.in_ok-head.ensures.1 bit c.in_err-test_elements.ensures)

pub after_element-returns-in_ok-test_elements : goal.after_element-returns-in_ok-test_elements
after_element-returns-in_ok-test_elements t c =
    let kids = c.in_ok-test_elements.ensures in
    let read = branch_read kids.0 c.in_ok-head.ensures.1 (c.is_constructed.ensures.0 c.if-is_constructed.true) kids.1 kids.2 in
    (Constructed c.in_ok-head.head.tag kids.0, read.0, read.1)

pub after_element-returns-else-is_constructed : goal.after_element-returns-else-is_constructed
after_element-returns-else-is_constructed t c =
    let read = leaf_read c.in_ok-head.ensures.1 (iff_false c.is_constructed.ensures c.if-is_constructed.false) in
    (Primitive c.in_ok-head.head.tag c.in_ok-head.head.contents.now, read.0, read.1)

pub test_elements-returns-in_err-after : goal.test_elements-returns-in_err-after
test_elements-returns-in_err-after t c =
    let p = err_from_is_err_and c.from_residual.result c.from_residual.ensures.1 in
    let not_empty : length c.loop-rest.rest.now ≡ 0 → ⊥ = eqb-false _ _ (sym c.is_empty.ensures ∙ c.loop-rest-test.true) in
    let some : 0 < length c.loop-rest.rest.now = omega arith in
    let before : ℕ = length c.args.octets.now - length c.loop-rest.rest.now in
    let shorter = c.loop-rest.invariant.shorter in
    rw (p.1, p.2) (fault_in c.args.at (c.args.at + before) (ElementFault c.args.levels c.loop-rest.rest.now) (KidsFault c.args.levels c.args.octets.now)
    c.in_err-after.field-0.0
    (λ k fault there. (before + k, omega arith, c.loop-rest.invariant.goes_on k (before + k) fault (omega arith) (First some there))) c.in_err-after.ensures)

pub test_elements-loop-rest-smaller : goal.test_elements-loop-rest-smaller
test_elements-loop-rest-smaller t c =
    let e = c.in_ok-after.ensures in
    omega (arith, some_octets e.0, length-append (encoding e.0) c.in_ok-after.after.now, ap length e.2)

pub test_elements-loop-rest-preserved : goal.test_elements-loop-rest-preserved
test_elements-loop-rest-preserved t c =
    let e = c.in_ok-after.ensures in
    let lengths : length c.loop-rest.rest.now ≡ length (encoding e.0) + length c.in_ok-after.after.now = ap length e.2
    ∙ length-append (encoding e.0) c.in_ok-after.after.now in
    record {
      shorter = omega (arith, c.loop-rest.invariant.shorter);
      elements = λ has. c.loop-rest.invariant.elements (one_more_first c.args.levels c.loop-rest.rest.now c.in_ok-after.after.now e.0 e.1 e.2 has);
      goes_on = λ k n fault same there. c.loop-rest.invariant.goes_on (length (encoding e.0) + k) n fault (omega arith) (Next e.1 e.2 there refl);
    }

pub test_elements-returns : goal.test_elements-returns
test_elements-returns t c = c.loop-rest.invariant.elements (no_elements c.args.levels _ (no_length c.loop-rest.rest.now (search rules)))
