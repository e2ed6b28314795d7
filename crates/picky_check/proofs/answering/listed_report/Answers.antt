use Rattle.std.proofs.Common.{List, ℕ, Vec, Global, map, refl, sym, ap, subst, ◌∙◌}
use Rattle.std.proofs.lemmas.Result.{err_from_is_err_and}
use Rattle.authenticode_core.specs.ContentRefusal.{of_content}
use Rattle.authenticode_core.specs.declared.policy.Policy.{Policy}
use Rattle.program_frame.specs.Reports.{Reports}
use Rattle.picky_check.specs.Report.{reporting}
use Rattle.program_frame.specs.Owned.{options_held}
use Rattle.picky_check.specs.Policies.{check_policy}
use Rattle.picky_check.specs.SignatureAnswer.{IsListAnswer, IsSignatureAnswer}
use Rattle.program_frame.proofs.WordLists.{behind, words_are}
use Rattle.picky_check.proofs.ListAnswers.{read_reported, unread_reported}
use Rattle.picky_check.proofs.answering.listed_report.Goals as goal

pub returns-in-Err : goal.returns-in-Err
returns-in-Err g c =
    let are = words_are (λ (v : Vec ℕ Global). v.items) c.args.lists.now c.list-item.result c.deref.result.now c.in-len1-up.len_at_least c.list-item.is
    (sym c.deref.ensures.value) in
    subst (λ (lists : List (List ℕ)). Reports reporting (IsListAnswer (g.S.Scheme.judge c.args.scheme.now)
    (check_policy c.args.hash.now c.args.date (options_held c.args.options.now)) c.args.octets.now lists) c.report_of.result)
    (sym are)
    (unread_reported (g.S.Scheme.judge c.args.scheme.now) c.args.hash.now c.args.date (options_held c.args.options.now) c.args.octets.now c.deref.result.now
    (map (λ (v : Vec ℕ Global). v.items) (behind c.args.lists.now))
    c.from-refusal.result (c.in-Err.error, c.in-Err.ensures.answer, c.from-refusal.ensures ∙ ap of_content c.from.ensures)
    c.report_of.result c.report_of.ensures)

pub returns-in_err-policy-2 : goal.returns-in_err-policy-2
returns-in_err-policy-2 g c =
    let p = err_from_is_err_and c.from_residual-in_err-policy-2.result c.from_residual-in_err-policy-2.ensures.1 in
    rw (p.1, p.2) (record { reported = tt; stopped = refl; only = λ answer is other. refl })

pub returns : goal.returns
returns g c =
    let are = words_are (λ (v : Vec ℕ Global). v.items) c.args.lists.now c.list-item.result c.deref.result.now c.in-len1-up.len_at_least c.list-item.is
    (sym c.deref.ensures.value) in
    subst (λ (lists : List (List ℕ)). Reports reporting (IsListAnswer (g.S.Scheme.judge c.args.scheme.now)
    (check_policy c.args.hash.now c.args.date (options_held c.args.options.now)) c.args.octets.now lists) c.judge_signature-2.result)
    (sym are)
    (read_reported (g.S.Scheme.judge c.args.scheme.now) c.args.hash.now c.args.date (options_held c.args.options.now) c.args.octets.now c.deref.result.now
    (map (λ (v : Vec ℕ Global). v.items) (behind c.args.lists.now))
    _ c.in-Ok.ensures.answer c.judge_signature-2.result
    (subst (λ (p : Policy). Reports reporting (IsSignatureAnswer (g.S.Scheme.judge c.args.scheme.now) p c.args.octets.now) c.judge_signature-2.result)
    c.in_ok-policy-2.ensures c.judge_signature-2.ensures))
