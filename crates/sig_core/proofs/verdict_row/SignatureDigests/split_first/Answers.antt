use Rattle.sig_core.proofs.Rows.{no_message, no_signature}
use Rattle.sig_core.proofs.verdict_row.SignatureDigests.split_first.Goals as goal

pub returns-in_err-msg : goal.returns-in_err-msg
returns-in_err-msg c =
    rw c.from_residual-in_err-msg.ensures (no_message _ _ _ _ _ c.in_ok-alg.ensures c.in_ok-key.ensures.0
    c.in_ok-key.ensures.1 c.in_err-msg.ensures)

pub returns-in_err-sig : goal.returns-in_err-sig
returns-in_err-sig c =
    rw c.from_residual-in_err-sig.ensures (no_signature _ _ _ _ _ _ _ c.in_ok-alg.ensures c.in_ok-key.ensures.0
    c.in_ok-key.ensures.1 c.in_ok-msg.ensures.0 c.in_ok-msg.ensures.1 c.in_err-sig.ensures)
