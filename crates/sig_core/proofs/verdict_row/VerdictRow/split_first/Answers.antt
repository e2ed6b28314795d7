use Rattle.sig_core.proofs.Rows.{no_verdict, no_named}
use Rattle.sig_core.proofs.verdict_row.VerdictRow.split_first.Goals as goal

pub returns-in_err-verdict : goal.returns-in_err-verdict
returns-in_err-verdict c = rw c.from_residual.ensures (no_verdict _ _ c.in_err-verdict.ensures)

pub returns-in_err-signature : goal.returns-in_err-signature
returns-in_err-signature c =
    rw c.from_residual-in_err-signature.ensures (no_named _ _ _ _ c.in_ok-verdict.ensures.0 c.in_ok-verdict.ensures.1
    c.in_err-signature.ensures)
