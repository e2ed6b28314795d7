use Rattle.x509_types.proofs.Moments.{no_utc, no_generalized, no_time}
use Rattle.x509_types.proofs.certificate.view.inner_fields.time_at.Goals as goal

pub returns-in_err-from_content : goal.returns-in_err-from_content
returns-in_err-from_content c = rw c.from_residual.ensures (no_utc _ _ c.in-Some.ensures c.in_err-from_content.ensures.read)

pub returns-in_err-contents : goal.returns-in_err-contents
returns-in_err-contents c = rw c.from_residual-in_err-contents.ensures (no_time _ c.in_default.ensures c.in_err-contents.ensures)

pub returns-in_err-from_content-2 : goal.returns-in_err-from_content-2
returns-in_err-from_content-2 c =
    rw c.from_residual-in_err-from_content-2.ensures (no_generalized _ _ c.in_ok-contents.ensures c.in_err-from_content-2.ensures.read)
