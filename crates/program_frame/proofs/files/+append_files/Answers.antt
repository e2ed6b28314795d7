use Rattle.std.proofs.Common.{List, [], ◌∷◌, ℕ, Err, ap, length, map, string_bytes, sym, subst, ◌++◌, ◌∙◌, arith}
use Rattle.std.proofs.lemmas.List.{map_push}
use Rattle.std.proofs.lemmas.Result.{IfErr-weaker, err_from_is_err_and}
use Rattle.program_frame.specs.Owned.{last_held, names_held}
use Rattle.program_frame.specs.ReadFiles.{AreUnread}
use Rattle.program_frame.proofs.Failing.{failed_as, failed_then, none_failed, one_error, stands}
use Rattle.program_frame.proofs.SeveralFiles.{read_only, unread_first, unread_behind}
use Rattle.program_frame.proofs.files.+append_files.Goals as goal

pub returns-in_err-read_file-clause-unread : goal.returns-in_err-read_file-clause-unread
returns-in_err-read_file-clause-unread g t c =
    let p = err_from_is_err_and c.from_residual.result c.from_residual.ensures.1 in
    rw (p.1, p.2) (unread_first (g.F.Shelf.state c.args.shelf.now) (g.F.Shelf.state c.args.shelf.now) (g.F.Shelf.state c.read_file.new.shelf)
    c.args.names.first.now (map string_bytes c.args.names.others.now ++ last_held c.args.names.last) c.in_err-read_file.field-0.0
    (λ fault. c.in_err-read_file.ensures.cause (ap Err fault))
    (λ quiet there fault. c.in_err-read_file.ensures.no_fault quiet there (ap Err fault))
    (λ long. c.in_err-read_file.ensures.more_given (ap Err long)) c.in_err-read_file.ensures.counted_given
    (λ long. c.in_err-read_file.ensures.too_long (ap Err long))
    (λ missing. let e = c.in_err-read_file.ensures.missing missing in cc))

pub returns-in-Some-clause-unread : goal.returns-in-Some-clause-unread
returns-in-Some-clause-unread g t c =
    IfErr-weaker c.append_files.result _ _ (λ e h.
    subst (λ (names : List (List ℕ)). AreUnread (g.F.Shelf.state c.args.shelf.now) (g.F.Shelf.state c.append_files.new.shelf) names e) (sym c.in-Some.ensures)
    (unread_behind (g.F.Shelf.state c.args.shelf.now) (g.F.Shelf.state c.read_file.new.shelf) (g.F.Shelf.state c.append_files.new.shelf)
    c.args.names.first.now (names_held c.in-Some.behind) e c.in_ok-read_file.field-0.items
    c.in_ok-read_file.ensures.whole c.in_ok-read_file.ensures.same c.in_ok-read_file.ensures.quiet
    c.in_ok-read_file.ensures.counted c.in_ok-read_file.ensures.given c.in_ok-read_file.ensures.counted_given h)) c.append_files.ensures.unread

pub returns-in_err-read_file-clause-once : goal.returns-in_err-read_file-clause-once
returns-in_err-read_file-clause-once g t c =
    let p = err_from_is_err_and c.from_residual.result c.from_residual.ensures.1 in
    failed_as (λ returned. p.1 ∙ ap Err (p.2 ∙ one_error c.in_err-read_file.field-0.0 _ returned)) c.in_err-read_file.ensures.once

pub returns-in_err-push-clause-once : goal.returns-in_err-push-clause-once
returns-in_err-push-clause-once g t c = none_failed (stands c.in_ok-read_file.ensures.once (λ none. absurd cc))

pub returns-in-Some-clause-once : goal.returns-in-Some-clause-once
returns-in-Some-clause-once g t c = failed_then (stands c.in_ok-read_file.ensures.once (λ none. absurd cc)) c.append_files.ensures.once

pub returns-in-None-clause-once : goal.returns-in-None-clause-once
returns-in-None-clause-once g t c = none_failed (stands c.in_ok-read_file.ensures.once (λ none. absurd cc))

pub returns-in_err-read_file-clause-at_most : goal.returns-in_err-read_file-clause-at_most
returns-in_err-read_file-clause-at_most g t c = omega (arith, c.in_err-read_file.ensures.at_most)

pub returns-in_err-push-clause-at_most : goal.returns-in_err-push-clause-at_most
returns-in_err-push-clause-at_most g t c = omega (arith, c.in_ok-read_file.ensures.at_most)

pub returns-in-Some-clause-at_most : goal.returns-in-Some-clause-at_most
returns-in-Some-clause-at_most g t c =
    omega (arith, c.in_ok-read_file.ensures.at_most, c.append_files.ensures.at_most, ap length c.in-Some.ensures)

pub returns-in-None-clause-at_most : goal.returns-in-None-clause-at_most
returns-in-None-clause-at_most g t c = omega (arith, c.in_ok-read_file.ensures.at_most)

pub returns-in-None-clause-read : goal.returns-in-None-clause-read
returns-in-None-clause-read g t c = (
  c.in_ok-read_file.field-0.items ∷ [],
  ap (map (λ octets. octets.items)) c.in_ok-push.ensures.items ∙ map_push (λ octets. octets.items) c.args.contents.now.items c.in_ok-read_file.field-0,
  read_only (g.F.Shelf.state c.args.shelf.now) (g.F.Shelf.state c.read_file.new.shelf) c.args.names.first.now c.in_ok-read_file.field-0.items
      (names_held c.args.names) c.in-None.ensures c.in_ok-read_file.ensures.whole c.in_ok-read_file.ensures.given,
)
