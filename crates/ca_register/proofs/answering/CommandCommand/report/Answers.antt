use Rattle.std.proofs.Common.{ℕ, List, map, ap, subst, sym, ◌∙◌, Vec, Global}
use Rattle.ca_register.specs.Owned.{line_held}
use Rattle.ca_register.specs.OwnedCommand.{command_held}
use Rattle.ca_register.specs.Lines.{IsRegisterText}
use Rattle.ca_register.specs.declared.text.line.RegisterLine.{RegisterLine}
use Rattle.ca_register.proofs.Answered.{text_report}
use Rattle.ca_register.proofs.answering.CommandCommand.report.Goals as goal

pub returns : goal.returns
returns c =
    let text = c.deref.ensures.value in
    let lines = c.deref-2.ensures.value in
    let is_text = subst (λ (ls : List RegisterLine). IsRegisterText c.deref.result.now (map line_held ls)) (sym lines) c.in_ok-lines.ensures.read in
    text_report (command_held c.args.self.now) c.args.read.now.first.items (map (λ (v : Vec ℕ Global). v.items) c.args.read.now.others.items)
    (map line_held c.deref-2.result.now)
    (subst (λ (t : List ℕ). IsRegisterText t (map line_held c.deref-2.result.now)) text is_text)
    (λ other is. ap (map line_held) lines ∙ c.in_ok-lines.ensures.only other (subst (λ (t : List ℕ). IsRegisterText t other) (sym text) is))
    c.report_lines.result c.report_lines.ensures.answer c.report_lines.ensures.counted
