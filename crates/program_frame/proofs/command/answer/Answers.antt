use Rattle.std.proofs.Common.{List, ℕ, Err, length, ap, subst, arith}
use Rattle.std.proofs.lemmas.Result.{err_from_is_err_and}
use Rattle.program_frame.specs.Owned.{contents_held}
use Rattle.program_frame.specs.ReadFiles.{AreRead, AreUnread}
use Rattle.program_frame.specs.Stops.{stop_for_file}
use Rattle.program_frame.proofs.Failing.{failed_as, none_failed, one_error, stands}
use Rattle.program_frame.proofs.Answerings.{IsAnswering-unread, IsAnswering-read}
use Rattle.program_frame.proofs.command.answer.Goals as goal

pub returns-in_err-contents : goal.returns-in_err-contents
returns-in_err-contents g c =
    let p = err_from_is_err_and c.from_residual.result c.from_residual.ensures.1 in
    rw (p.1, p.2)
    (IsAnswering-unread g.C.Command.program (g.F.Shelf.state c.args.shelf.now) (g.F.Shelf.state c.read_files.new.shelf) (g.C.Command.asked c.args.command.now)
    (omega (arith, c.in_err-contents.ensures.at_most, ap length c.names.ensures)) c.in_err-contents.field-0.0
    (failed_as (λ returned. ap Err (ap stop_for_file (one_error c.in_err-contents.field-0.0 _ returned))) c.in_err-contents.ensures.once)
    (subst (λ (names : List (List ℕ)). AreUnread (g.F.Shelf.state c.args.shelf.now) (g.F.Shelf.state c.read_files.new.shelf) names c.in_err-contents.field-0.0)
    c.names.ensures c.in_err-contents.ensures.read))

pub returns : goal.returns
returns g c =
    IsAnswering-read g.C.Command.program (g.F.Shelf.state c.args.shelf.now) (g.F.Shelf.state c.read_files.new.shelf) (g.C.Command.asked c.args.command.now)
    (omega (arith, c.in_ok-contents.ensures.at_most, ap length c.names.ensures)) (contents_held c.in_ok-contents.contents)
    (subst (λ (names : List (List ℕ)). AreRead (g.F.Shelf.state c.args.shelf.now) (g.F.Shelf.state c.read_files.new.shelf) names
    (contents_held c.in_ok-contents.contents)) c.names.ensures c.in_ok-contents.ensures.read)
    c.report.result (none_failed (stands c.in_ok-contents.ensures.once (λ none. absurd cc))) c.report.ensures
