use Rattle.std.proofs.Common.{ℕ, List, subst, Vec, Global}
use Rattle.program_frame.specs.Owned.{contents_held}
use Rattle.program_frame.specs.Reports.{Reports, as_lines}
use Rattle.signature_questions.specs.Commands.{IsSignatureLine}
use Rattle.signature_questions.proofs.LineReports.{chain_report, signature_report}
use Rattle.signature_questions.proofs.answering.CommandCommand.report.Goals as goal

pub returns-in-Signature : goal.returns-in-Signature
returns-in-Signature c =
    rw c.in-Signature.is
    (signature_report c.signature_report.result (λ (v : Vec ℕ Global). v.items)
    c.in-Signature.field-0.now c.args.read.now.first.items c.args.read.now.others.items
    (rw c.in-Signature.is at c.requires)
    (subst (λ (octets : List ℕ). Reports as_lines (IsSignatureLine octets) c.signature_report.result) c.deref.ensures.value c.signature_report.ensures))

pub returns-in-Chain : goal.returns-in-Chain
returns-in-Chain c = rw c.in-Chain.is (chain_report c.chain_report.result _ (contents_held c.args.read.now) c.chain_report.ensures)
