use Rattle.std.proofs.Common.{ap, ◌∙◌}
use Rattle.std.specs.Prelude.{Some}
use Rattle.x509_types.specs.CertificateFields.{kid}
use Rattle.x509_types.proofs.Moments.{ends_of}
use Rattle.x509_types.proofs.certificate.view.inner_fields.first_time.Goals as goal

pub returns-in_err-not_before : goal.returns-in_err-not_before
returns-in_err-not_before c =
    rw c.from_residual-in_err-not_before.ensures (λ value e. c.in_err-not_before.ensures value.not_before (ends_of _ _ _ value c.in_ok-first.ensures e).0)

pub returns : goal.returns
returns c = ap (kid 0) c.in_ok-first.ensures ∙ ap Some c.in_ok-not_before.ensures
