use Rattle.std.proofs.Common.{◌≡◌, Err, ◌<◌, length, drop, ◌+◌, ℕ, subst, ap, ◌∙◌, arith}
use Rattle.std.proofs.lemmas.Result.{err_from_is_err_and}
use Rattle.std.proofs.lemmas.List.{take-append-le, length-take, length-take-le, length-append, length-drop, length-replicate}
use Rattle.der_core.specs.Counts.{RisesBy}
use Rattle.program_frame.proofs.Failing.{failed_as, failed_then, none_failed, stands}
use Rattle.program_frame.proofs.Reading.{reads_nothing, reads_more, reads_all, reads_too_much, rises_more, rises_none, goes_further, has_risen_since}
use Rattle.program_frame.proofs.files.read_file.Goals as goal

pub loop-piece-init : goal.loop-piece-init
loop-piece-init g c =
    let none = c.new-octets.ensures.items in
    record {
      within = omega (arith, ap length none);
      size = length-replicate {A = ℕ} 16384 0;
      read = λ exposed. rw none (reads_nothing _ _ _ (c.in_ok-pick.ensures.picked exposed));
      given = rw none (rises_none _ _ c.pick.ensures.none_given);
      kept = c.pick.ensures.kept;
      counted = c.pick.ensures.counted;
      still = stands c.in_ok-pick.ensures.once (λ none. absurd cc);
      same = c.pick.ensures.same;
      quiet = λ quiet has. (c.pick.ensures.quiet quiet has).1;
    }

pub returns-in_err-count-clause-cause : goal.returns-in_err-count-clause-cause
returns-in_err-count-clause-cause g c _ = has_risen_since _ _ _ c.loop-piece.invariant.counted c.in_err-count.ensures.cause

pub returns-in_err-count-clause-no_fault : goal.returns-in_err-count-clause-no_fault
returns-in_err-count-clause-no_fault g c quiet has _ = cc (c.in_err-count.ensures.quiet (c.loop-piece.invariant.quiet quiet has)).0

pub returns-in_err-count-clause-quiet : goal.returns-in_err-count-clause-quiet
returns-in_err-count-clause-quiet g c quiet has = (c.read.ensures.quiet (c.loop-piece.invariant.quiet quiet has)).1

pub returns-in_err-pick-clause-once : goal.returns-in_err-pick-clause-once
returns-in_err-pick-clause-once g c =
    let p = err_from_is_err_and c.from_residual.result c.from_residual.ensures.1 in
    failed_as (λ _. p.1 ∙ ap Err p.2) c.in_err-pick.ensures.once

pub returns-in_err-count-clause-once : goal.returns-in_err-count-clause-once
returns-in_err-count-clause-once g c =
    let p = err_from_is_err_and c.from_residual-in_err-count.result c.from_residual-in_err-count.ensures.1 in
    failed_as (λ _. p.1 ∙ ap Err p.2) (failed_then c.loop-piece.invariant.still c.in_err-count.ensures.once)

pub returns-then-count-eq0-clause-once : goal.returns-then-count-eq0-clause-once
returns-then-count-eq0-clause-once g c = none_failed (stands c.in_ok-count.ensures.once (λ none. absurd cc) ∙ c.loop-piece.invariant.still)

pub returns-then-count-eq0-clause-whole : goal.returns-then-count-eq0-clause-whole
returns-then-count-eq0-clause-whole g c = record {
  as_exposed = λ exposed.
      let read = c.loop-piece.invariant.read exposed in
      let moves = c.in_ok-count.ensures.moved read.left read.rest_is in
      let some : 0 < length c.read.new.into =
      omega (
        arith,
        c.read.auto.into,
        length-take c.min-most.result c.loop-piece.piece,
        c.loop-piece.invariant.size,
        c.min-most.ensures,
        c.len-in-loop-piece.ensures,
        c.len.ensures,
        c.loop-piece-test.true,
      ) in
      reads_all _ _ _ _ _ _ _ read moves c.if-count-eq0.true some;
  short = omega (arith, c.len.ensures, c.loop-piece-test.true);
}

pub returns-then-count-eq0-clause-given : goal.returns-then-count-eq0-clause-given
returns-then-count-eq0-clause-given g c =
    let rises = rises_more _ _ _ _ _ c.loop-piece.invariant.given c.in_ok-count.ensures.given in
    subst (λ n. RisesBy n (g.F.Shelf.state c.args.shelf.now).given (g.F.Shelf.state c.read.new.self).given) (omega (arith, c.if-count-eq0.true)) rises

pub returns-then-count-eq0-clause-quiet : goal.returns-then-count-eq0-clause-quiet
returns-then-count-eq0-clause-quiet g c quiet has = (c.read.ensures.quiet (c.loop-piece.invariant.quiet quiet has)).1

pub loop-piece-preserved : goal.loop-piece-preserved
loop-piece-preserved g c =
    let items = c.in_ok-extend_from_slice.ensures.items in
    let front = take-append-le c.in_ok-count.count c.read.new.into (drop c.min-most.result c.loop-piece.piece)
    (omega (arith, c.in_ok-count.ensures.bound, c.read.auto.into)) in
    let size : length c.extend_from_slice.new.self.items ≡ length c.loop-piece.octets.items + c.in_ok-count.count =
    ap length items
    ∙ length-append c.loop-piece.octets.items _
    ∙ ap (λ n. length c.loop-piece.octets.items + n) (length-take-le c.in_ok-count.count _
    (omega (arith, c.in_ok-count.ensures.bound, c.read.auto.into, length-append c.read.new.into (drop c.min-most.result c.loop-piece.piece)))) in
    record {
      within = omega (
        arith,
        size,
        c.in_ok-count.ensures.bound,
        length-take c.min-most.result c.loop-piece.piece,
        c.min-most.ensures,
        c.len-in-loop-piece.ensures,
        c.len.ensures,
        c.loop-piece-test.true,
      );
      size = omega (
        arith,
        length-append c.read.new.into (drop c.min-most.result c.loop-piece.piece),
        length-drop c.min-most.result c.loop-piece.piece,
        c.read.auto.into,
        length-take c.min-most.result c.loop-piece.piece,
        c.loop-piece.invariant.size,
        c.min-most.ensures,
      );
      read = λ exposed.
          let read = c.loop-piece.invariant.read exposed in
          let moves = c.in_ok-count.ensures.moved read.left read.rest_is in
          rw items (reads_more _ _ _ _ _ _ _ _ read moves front);
      given = rw size (rises_more _ _ _ _ _ c.loop-piece.invariant.given c.in_ok-count.ensures.given);
      kept = goes_further _ _ _ c.loop-piece.invariant.kept c.read.ensures.kept;
      counted = goes_further _ _ _ c.loop-piece.invariant.counted c.read.ensures.counted;
      still = stands c.in_ok-count.ensures.once (λ none. absurd cc) ∙ c.loop-piece.invariant.still;
      same = c.read.ensures.same ∙ c.loop-piece.invariant.same;
      quiet = λ quiet has. (c.read.ensures.quiet (c.loop-piece.invariant.quiet quiet has)).1;
    }

pub returns-in_err-extend_from_slice-clause-quiet : goal.returns-in_err-extend_from_slice-clause-quiet
returns-in_err-extend_from_slice-clause-quiet g c quiet has = (c.read.ensures.quiet (c.loop-piece.invariant.quiet quiet has)).1

pub returns-in_err-extend_from_slice-clause-once : goal.returns-in_err-extend_from_slice-clause-once
returns-in_err-extend_from_slice-clause-once g c = none_failed (stands c.in_ok-count.ensures.once (λ none. absurd cc) ∙ c.loop-piece.invariant.still)

pub returns-clause-once : goal.returns-clause-once
returns-clause-once g c = none_failed c.loop-piece.invariant.still

pub returns-clause-too_long : goal.returns-clause-too_long
returns-clause-too_long g c _ exposed =
    reads_too_much _ _ _ _ (c.loop-piece.invariant.read exposed) (omega (arith, c.loop-piece-test.false, c.len.ensures))

pub returns-clause-more_given : goal.returns-clause-more_given
returns-clause-more_given g c _ =
    let long : length c.loop-piece.octets.items ≡ 16777217 = omega (arith, c.loop-piece-test.false, c.loop-piece.invariant.within, c.len.ensures) in
    subst (λ n. RisesBy n (g.F.Shelf.state c.args.shelf.now).given (g.F.Shelf.state c.loop-piece.shelf).given) long c.loop-piece.invariant.given

-- ---- at most one octet more than the longest file

pub returns-in_err-pick-clause-at_most : goal.returns-in_err-pick-clause-at_most
returns-in_err-pick-clause-at_most g c = omega (arith, c.pick.ensures.none_given)

pub returns-in_err-count-clause-at_most : goal.returns-in_err-count-clause-at_most
returns-in_err-count-clause-at_most g c =
    omega (arith, c.loop-piece.invariant.given, c.loop-piece.invariant.within, c.in_err-count.ensures.none_given)

pub returns-then-count-eq0-clause-at_most : goal.returns-then-count-eq0-clause-at_most
returns-then-count-eq0-clause-at_most g c =
    omega (arith, c.loop-piece.invariant.given, c.loop-piece.invariant.within, c.in_ok-count.ensures.given, c.if-count-eq0.true)

pub returns-in_err-extend_from_slice-clause-at_most : goal.returns-in_err-extend_from_slice-clause-at_most
returns-in_err-extend_from_slice-clause-at_most g c =
    omega (
      arith,
      c.loop-piece.invariant.given,
      c.in_ok-count.ensures.given,
      c.in_ok-count.ensures.bound,
      length-take c.min-most.result c.loop-piece.piece,
      c.min-most.ensures,
      c.len-in-loop-piece.ensures,
      c.len.ensures,
      c.loop-piece-test.true,
    )

pub returns-clause-at_most : goal.returns-clause-at_most
returns-clause-at_most g c = omega (arith, c.loop-piece.invariant.given, c.loop-piece.invariant.within)
