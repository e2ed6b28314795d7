use Rattle.std.proofs.Common.{List, ℕ, Vec, Global, map, sym, ap, subst, ◌∙◌}
use Rattle.authenticode_core.specs.ContentRefusal.{of_content}
use Rattle.authenticode_core.specs.declared.policy.Policy.{Policy}
use Rattle.program_frame.specs.Owned.{options_held}
use Rattle.program_frame.proofs.WordLists.{behind, words_are}
use Rattle.pe_image.specs.ListAnswer.{IsListAnswer, IsProgramAnswer}
use Rattle.pe_image.specs.ProgramPolicy.{program_policy}
use Rattle.program_frame.specs.Reports.{Reports}
use Rattle.pe_image.specs.Report.{reporting}
use Rattle.pe_image.proofs.ListAnswers.{read_reported, unread_reported}
use Rattle.pe_image.proofs.answering.listed_report.Goals as goal

pub returns-in-Err : goal.returns-in-Err
returns-in-Err g c =
    let are = words_are (λ (v : Vec ℕ Global). v.items) c.args.lists.now c.list-item.result c.deref.result.now c.in-len1-up.len_at_least c.list-item.is
    (sym c.deref.ensures.value) in
    subst (λ (lists : List (List ℕ)). Reports reporting (IsListAnswer (g.S.Scheme.judge c.args.scheme.now)
    (program_policy c.args.date (options_held c.args.options.now)) c.args.octets.now lists) c.report_of.result)
    (sym are)
    (unread_reported (g.S.Scheme.judge c.args.scheme.now) c.args.date (options_held c.args.options.now) c.args.octets.now c.deref.result.now
    (map (λ (v : Vec ℕ Global). v.items) (behind c.args.lists.now))
    c.from-in-Err.result
    (c.from-refusal.result, (c.in-Err.error, c.in-Err.ensures.answer, c.from-refusal.ensures ∙ ap of_content c.from.ensures), c.from-in-Err.ensures)
    c.report_of.result c.report_of.ensures)

pub returns : goal.returns
returns g c =
    let are = words_are (λ (v : Vec ℕ Global). v.items) c.args.lists.now c.list-item.result c.deref.result.now c.in-len1-up.len_at_least c.list-item.is
    (sym c.deref.ensures.value) in
    subst (λ (lists : List (List ℕ)). Reports reporting (IsListAnswer (g.S.Scheme.judge c.args.scheme.now)
    (program_policy c.args.date (options_held c.args.options.now)) c.args.octets.now lists) c.judge_program-2.result)
    (sym are)
    (read_reported (g.S.Scheme.judge c.args.scheme.now) c.args.date (options_held c.args.options.now) c.args.octets.now c.deref.result.now
    (map (λ (v : Vec ℕ Global). v.items) (behind c.args.lists.now))
    _ c.in-Ok.ensures.answer c.judge_program-2.result
    (subst (λ (p : Policy). Reports reporting (IsProgramAnswer (g.S.Scheme.judge c.args.scheme.now) p c.args.octets.now) c.judge_program-2.result)
    c.program_policy-policy-2.ensures c.judge_program-2.ensures))
