use Rattle.std.proofs.Common.{◌≡◌, ℕ, arith, map, string_bytes, subst}
use Rattle.std.proofs.lemmas.Bool.{eqb-true}
use Rattle.program_frame.specs.Run.{IsRun}
use Rattle.signature_questions.specs.Commands.{program}
use Rattle.vouching.proofs.citing.ask_and_check.Goals as goal

pub returns-then-run-eq-ACCEPTED : goal.returns-then-run-eq-ACCEPTED
returns-then-run-eq-ACCEPTED g c = λ done.
    let asks = map string_bytes c.args.asks.now in
    let words = map string_bytes c.args.words.now in
    let listed : c.run.result ≡ 0 = omega (arith, c.if-run-eq-ACCEPTED.true) in
    let checked : c.run-then-run-eq-ACCEPTED.result ≡ 0 = eqb-true _ 0 done in
    let ask = c.asked_runs_are_listed.ensures asks c.args.shelf.now c.run.new.shelf (g.O.Sink.state c.args.lines.now) (g.O.Sink.state c.run.new.out)
    (subst
    (λ (status : ℕ). IsRun program asks g.F.Shelf.state c.args.shelf.now c.run.new.shelf (g.O.Sink.state c.args.lines.now)
    (g.O.Sink.state c.run.new.out) status)
    listed c.run.ensures.ends) in
    let run = c.run-then-run-eq-ACCEPTED.ensures.vouched_for checked in (
      c.run.new.shelf,
      ask,
      run,
      λ judge same verified apart.
          c.listed_runs_are_vouched_for.ensures.checked asks words c.args.shelf.now c.run.new.shelf c.run.new.shelf c.run-then-run-eq-ACCEPTED.new.shelf
          _ _ _ _ ask run judge same verified apart,
    )
