use Rattle.std.proofs.Common.{◌++◌, Err, List, ℕ, ap, length, map, string_bytes, sym, subst, ◌∙◌, arith}
use Rattle.std.proofs.lemmas.Result.{err_from_is_err_and}
use Rattle.program_frame.specs.Owned.{last_held, names_held}
use Rattle.program_frame.specs.ReadFiles.{AreUnread}
use Rattle.program_frame.proofs.Failing.{failed_as, failed_then, one_error, stands}
use Rattle.program_frame.proofs.SeveralFiles.{unread_first, unread_behind}
use Rattle.program_frame.proofs.files.read_files.Goals as goal

pub returns-in_err-first-clause-read : goal.returns-in_err-first-clause-read
returns-in_err-first-clause-read g c =
    let p = err_from_is_err_and c.from_residual.result c.from_residual.ensures.1 in
    rw (p.1, p.2) (unread_first (g.F.Shelf.state c.args.shelf.now) (g.F.Shelf.state c.args.shelf.now) (g.F.Shelf.state c.read_file.new.shelf)
    c.args.names.first.now (map string_bytes c.args.names.others.now ++ last_held c.args.names.last) c.in_err-first.field-0.0
    (λ fault. c.in_err-first.ensures.cause (ap Err fault))
    (λ quiet there fault. c.in_err-first.ensures.no_fault quiet there (ap Err fault))
    (λ long. c.in_err-first.ensures.more_given (ap Err long)) c.in_err-first.ensures.counted_given
    (λ long. c.in_err-first.ensures.too_long (ap Err long))
    (λ missing. let e = c.in_err-first.ensures.missing missing in cc))

pub returns-in_err-append_files-clause-read : goal.returns-in_err-append_files-clause-read
returns-in_err-append_files-clause-read g c =
    let p = err_from_is_err_and c.from_residual-in_err-append_files.result c.from_residual-in_err-append_files.ensures.1 in
    rw (p.1, p.2) (subst (λ (names : List (List ℕ)).
    AreUnread (g.F.Shelf.state c.args.shelf.now) (g.F.Shelf.state c.append_files.new.shelf) names c.in_err-append_files.field-0.0) (sym c.in-Some.ensures)
    (unread_behind (g.F.Shelf.state c.args.shelf.now) (g.F.Shelf.state c.read_file.new.shelf) (g.F.Shelf.state c.append_files.new.shelf)
    c.args.names.first.now (names_held c.in-Some.behind) c.in_err-append_files.field-0.0 c.in_ok-first.first.items
    c.in_ok-first.ensures.whole c.in_ok-first.ensures.same c.in_ok-first.ensures.quiet c.in_ok-first.ensures.counted c.in_ok-first.ensures.given
    c.in_ok-first.ensures.counted_given
    c.in_err-append_files.ensures.unread))

pub returns-in_err-first-clause-once : goal.returns-in_err-first-clause-once
returns-in_err-first-clause-once g c =
    let p = err_from_is_err_and c.from_residual.result c.from_residual.ensures.1 in
    failed_as (λ returned. p.1 ∙ ap Err (p.2 ∙ one_error c.in_err-first.field-0.0 _ returned)) c.in_err-first.ensures.once

pub returns-in_err-append_files-clause-once : goal.returns-in_err-append_files-clause-once
returns-in_err-append_files-clause-once g c =
    let p = err_from_is_err_and c.from_residual-in_err-append_files.result c.from_residual-in_err-append_files.ensures.1 in
    failed_as (λ returned. p.1 ∙ ap Err (p.2 ∙ one_error c.in_err-append_files.field-0.0 _ returned))
    (failed_then (stands c.in_ok-first.ensures.once (λ none. absurd cc)) c.in_err-append_files.ensures.once)

pub returns-in_err-first-clause-at_most : goal.returns-in_err-first-clause-at_most
returns-in_err-first-clause-at_most g c = omega (arith, c.in_err-first.ensures.at_most)

pub returns-in_err-append_files-clause-at_most : goal.returns-in_err-append_files-clause-at_most
returns-in_err-append_files-clause-at_most g c =
    omega (arith, c.in_ok-first.ensures.at_most, c.in_err-append_files.ensures.at_most, ap length c.in-Some.ensures)
