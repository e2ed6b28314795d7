use Rattle.std.proofs.Common.{Err, Ok, ap, refl, ◌∙◌}
use Rattle.std.proofs.lemmas.Result.{err_from_is_err_and}
use Rattle.pe_image.proofs.CheckExits.{broken_same, exit_answer, exit_only, exit_unread, undigested}
use Rattle.pe_image.proofs.ImageHashes.{binds}
use Rattle.pe_image.proofs.TableAnswers.{only_broken}
use Rattle.pe_image.proofs.check.check_pe.Goals as goal

pub returns-in-Err-clause-refused : goal.returns-in-Err-clause-refused
returns-in-Err-clause-refused g c = λ e broken. broken_same c.image_has_one_answer.ensures.once c.args.bytes.now c.in-Err.error e c.in-Err.ensures broken

pub returns-in-Err-clause-only : goal.returns-in-Err-clause-only
returns-in-Err-clause-only g c =
    only_broken (g.S.Scheme.judge c.args.scheme.now) c.args.policy c.args.bytes.now c.image_has_one_answer.ensures.unbroken c.image_has_one_answer.ensures.once
    c.in-Err.error c.in-Err.ensures

pub returns-in_err-policy-clause-refused : goal.returns-in_err-policy-clause-refused
returns-in_err-policy-clause-refused g c = λ e broken. absurd (c.image_has_one_answer.ensures.unbroken c.args.bytes.now e c.in-Ok.ensures.1 broken)

pub returns-in_err-policy-clause-unread : goal.returns-in_err-policy-clause-unread
returns-in_err-policy-clause-unread g c = λ e image refuses.
    absurd (undigested c.one_first_fault.ensures.at_most_one c.one_first_fault.ensures.instead_of_an_element c.in-Ok.image.file.now c.args.bytes.now
    c.in-Ok.ensures.0 (c.in_err-policy.ensures.memory refl) e refuses)

pub returns-in_err-accepted-clause-answer : goal.returns-in_err-accepted-clause-answer
returns-in_err-accepted-clause-answer g c =
    let p = err_from_is_err_and c.from_residual-in_err-accepted.result c.from_residual-in_err-accepted.ensures.1 in
    exit_answer (g.S.Scheme.judge c.args.scheme.now) c.args.policy c.args.bytes.now c.in-Ok.image.file.now c.table.result.now c.in-Ok.ensures.0 c.table.ensures
    c.in-Ok.ensures.1 c.in_ok-policy.field-0 c.in_ok-policy.ensures.hash
    c.from_residual-in_err-accepted.result (Err c.in_err-accepted.field-0.0) (p.1 ∙ ap Err p.2) c.in_err-accepted.ensures.answer

pub returns-in_err-accepted-clause-unread : goal.returns-in_err-accepted-clause-unread
returns-in_err-accepted-clause-unread g c = λ e image refuses.
    let p = err_from_is_err_and c.from_residual-in_err-accepted.result c.from_residual-in_err-accepted.ensures.1 in
    exit_unread (g.S.Scheme.judge c.args.scheme.now) c.args.policy c.args.bytes.now c.in-Ok.image.file.now c.table.result.now c.in-Ok.ensures.0 c.table.ensures
    c.in-Ok.ensures.1 c.in_ok-policy.field-0 c.in_ok-policy.ensures.hash
    c.from_residual-in_err-accepted.result (Err c.in_err-accepted.field-0.0) (p.1 ∙ ap Err p.2) c.in_err-accepted.ensures.refused e refuses

pub returns-in_err-accepted-clause-only : goal.returns-in_err-accepted-clause-only
returns-in_err-accepted-clause-only g c =
    let p = err_from_is_err_and c.from_residual-in_err-accepted.result c.from_residual-in_err-accepted.ensures.1 in
    exit_only (g.S.Scheme.judge c.args.scheme.now) c.args.policy c.args.bytes.now c.in-Ok.image.file.now c.table.result.now c.in-Ok.ensures.0 c.table.ensures
    c.in-Ok.ensures.1 c.in_ok-policy.field-0 c.in_ok-policy.ensures.hash
    c.from_residual-in_err-accepted.result (Err c.in_err-accepted.field-0.0) (p.1 ∙ ap Err p.2)
    c.image_has_one_answer.ensures.unbroken c.in_err-accepted.ensures.only

pub returns-clause-answer : goal.returns-clause-answer
returns-clause-answer g c =
    exit_answer (g.S.Scheme.judge c.args.scheme.now) c.args.policy c.args.bytes.now c.in-Ok.image.file.now c.table.result.now c.in-Ok.ensures.0 c.table.ensures
    c.in-Ok.ensures.1 c.in_ok-policy.field-0 c.in_ok-policy.ensures.hash
    (Ok c.in_ok-accepted.accepted) (Ok c.in_ok-accepted.accepted) refl c.in_ok-accepted.ensures.answer

pub returns-clause-bound : goal.returns-clause-bound
returns-clause-bound g c = binds (g.S.Scheme.judge c.args.scheme.now) c.args.policy c.args.bytes.now c.in_ok-accepted.accepted (returns-clause-answer g c)

pub returns-clause-refused : goal.returns-clause-refused
returns-clause-refused g c = λ e broken. absurd (c.image_has_one_answer.ensures.unbroken c.args.bytes.now e c.in-Ok.ensures.1 broken)

pub returns-clause-unread : goal.returns-clause-unread
returns-clause-unread g c = λ e image refuses.
    exit_unread (g.S.Scheme.judge c.args.scheme.now) c.args.policy c.args.bytes.now c.in-Ok.image.file.now c.table.result.now c.in-Ok.ensures.0 c.table.ensures
    c.in-Ok.ensures.1 c.in_ok-policy.field-0 c.in_ok-policy.ensures.hash
    (Ok c.in_ok-accepted.accepted) (Ok c.in_ok-accepted.accepted) refl c.in_ok-accepted.ensures.refused e refuses

pub returns-clause-only : goal.returns-clause-only
returns-clause-only g c =
    exit_only (g.S.Scheme.judge c.args.scheme.now) c.args.policy c.args.bytes.now c.in-Ok.image.file.now c.table.result.now c.in-Ok.ensures.0 c.table.ensures
    c.in-Ok.ensures.1 c.in_ok-policy.field-0 c.in_ok-policy.ensures.hash
    (Ok c.in_ok-accepted.accepted) (Ok c.in_ok-accepted.accepted) refl c.image_has_one_answer.ensures.unbroken c.in_ok-accepted.ensures.only
