use Rattle.std.proofs.Common.{List, inl, refl, subst}
use Rattle.std.proofs.lemmas.Result.{err_from_is_err_and}
use Rattle.program_frame.specs.Owned.{contents_held}
use Rattle.x509_core.specs.OwnedCertificate.{KeptCertificate}
use Rattle.signature_questions.specs.Commands.{IsChainLine}
use Rattle.signature_questions.specs.Listed.{AreOfChain}
use Rattle.signature_questions.proofs.LineReports.{line_reports, memory_reports, unread_reports}
use Rattle.signature_questions.proofs.OneLine.{chain_line_once}
use Rattle.signature_questions.proofs.answering.chain_report.Goals as goal

pub returns-in-Err : goal.returns-in-Err
returns-in-Err c =
    unread_reports (contents_held c.args.read.now) c.in-Err.error c.unread_report.result c.in-Err.ensures c.unread_report.ensures.refused
    c.unread_report.ensures.memory

pub returns-in_err-chain_lines_of-in-Ok : goal.returns-in_err-chain_lines_of-in-Ok
returns-in_err-chain_lines_of-in-Ok c =
    let p = err_from_is_err_and c.from_residual.result c.from_residual.ensures.1 in
    rw (p.1, p.2) (memory_reports (IsChainLine (contents_held c.args.read.now)) _ refl)

pub returns-in_ok-chain_lines_of-in-Ok : goal.returns-in_ok-chain_lines_of-in-Ok
returns-in_ok-chain_lines_of-in-Ok c =
    let octets = contents_held c.args.read.now in
    let lines = c.in_ok-chain_lines_of-in-Ok.ensures in
    let are = subst (λ (parents : List KeptCertificate). AreOfChain c.in-Ok.checked parents lines.0) c.deref.ensures.value (c.of.ensures lines.0 lines.1) in
    line_reports (IsChainLine octets) (chain_line_once octets) _
    (inl (c.in-Ok.checked, c.in-Ok.parents.items, c.in-Ok.ensures, record { questions = lines.0; are = are; status = refl; text = lines.2 }))
