use Rattle.std.proofs.Common.{◌≡◌, ℕ, length, refl, subst, sym, ap, ◌∙◌, arith}
use Rattle.std.proofs.lemmas.Result.{err_from_is_err_and}
use Rattle.der_core.specs.Counts.{HasRisen}
use Rattle.program_frame.specs.Sink.{Lowers}
use Rattle.program_frame.proofs.Failing.{failed_as, failed_then, none_failed, stands}
use Rattle.program_frame.proofs.Appending.{appends_nothing, appends_rest, appends_kept, lowers_nothing, lowers_more, used_up, capacity_written, capacity_kept}
use Rattle.program_frame.proofs.files.write_report.Goals as goal

pub loop-done-init : goal.loop-done-init
loop-done-init g c = record {
  within = omega arith;
  held = appends_nothing _;
  room = lowers_nothing _;
  capacity = λ capacity has. has;
  still = refl;
}

pub loop-done-preserved : goal.loop-done-preserved
loop-done-preserved g c = record {
  within = grind arith;
  held = appends_rest _ _ _ _ _ _ c.loop-done.invariant.held c.in_ok-done.ensures.appended;
  room = lowers_more _ _ _ _ _ c.loop-done.invariant.room c.in_ok-done.ensures.lowered;
  capacity = capacity_written _ _ _ _ _ c.loop-done.invariant.capacity c.in_ok-done.ensures.bound c.in_ok-done.ensures.appended c.in_ok-done.ensures.lowered;
  still = stands c.in_ok-done.ensures.once (λ none. absurd cc) ∙ c.loop-done.invariant.still;
}

pub returns-in_err-done-clause-counted : goal.returns-in_err-done-clause-counted
returns-in_err-done-clause-counted g c = omega (arith, c.loop-done.invariant.still, c.in_err-done.ensures.counted.no_fall)

pub returns-in_err-done-clause-once : goal.returns-in_err-done-clause-once
returns-in_err-done-clause-once g c =
    let p = err_from_is_err_and c.from_residual.result c.from_residual.ensures.1 in
    failed_as (λ _. rw p.1 refl) (failed_then c.loop-done.invariant.still c.in_err-done.ensures.once)

pub returns-in_err-done-clause-cause : goal.returns-in_err-done-clause-cause
returns-in_err-done-clause-cause g c =
    let p = err_from_is_err_and c.from_residual.result c.from_residual.ensures.1 in
    rw p.1 (subst (λ (n : ℕ). HasRisen n (g.O.Sink.state c.write.new.self).faults) c.loop-done.invariant.still c.in_err-done.ensures.cause)

pub returns-in_err-done-clause-cut : goal.returns-in_err-done-clause-cut
returns-in_err-done-clause-cut g c =
    let p = err_from_is_err_and c.from_residual.result c.from_residual.ensures.1 in
    let text = c.as_bytes-octets.ensures.value in
    rw p.1 (
    record {
      count = c.loop-done.done;
      short = omega (arith, c.loop-done-test.true, ap length text);
      front = rw (sym text) (appends_kept _ _ _ _ c.loop-done.invariant.held c.in_err-done.ensures.kept);
      full = used_up _ _ _ _ c.loop-done.invariant.room c.in_err-done.ensures.full;
    }
    )

pub returns-in_err-done-clause-room : goal.returns-in_err-done-clause-room
returns-in_err-done-clause-room g c has =
    let used : has.0 ≡ c.loop-done.done = used_up _ _ _ _ c.loop-done.invariant.room c.in_err-done.ensures.full has.0 has.1 in
    absurd (omega (arith, used, has.2, c.loop-done-test.true, ap length c.as_bytes-octets.ensures.value))

pub returns-clause-lowered : goal.returns-clause-lowered
returns-clause-lowered g c =
    let all : c.loop-done.done ≡ length c.args.text.now =
    omega (arith, c.loop-done-test.false, c.loop-done.invariant.within, ap length c.as_bytes-octets.ensures.value) in
    subst (λ n. Lowers (g.O.Sink.state c.args.out.now).room n (g.O.Sink.state c.loop-done.out).room) all c.loop-done.invariant.room

pub returns-in_err-done-clause-capacity : goal.returns-in_err-done-clause-capacity
returns-in_err-done-clause-capacity g c =
    capacity_kept _ _ _ c.loop-done.invariant.capacity c.in_err-done.ensures.kept c.in_err-done.ensures.kept_room

pub returns-clause-capacity : goal.returns-clause-capacity
returns-clause-capacity g c = c.loop-done.invariant.capacity

pub returns-clause-counted : goal.returns-clause-counted
returns-clause-counted g c = omega (arith, c.loop-done.invariant.still)

pub returns-clause-once : goal.returns-clause-once
returns-clause-once g c = none_failed c.loop-done.invariant.still
