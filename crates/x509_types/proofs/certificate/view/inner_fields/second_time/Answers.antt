use Rattle.std.proofs.Common.{ap, ◌∙◌}
use Rattle.std.specs.Prelude.{Some}
use Rattle.x509_types.specs.CertificateFields.{kid}
use Rattle.x509_types.proofs.Moments.{ends_of}
use Rattle.x509_types.proofs.certificate.view.inner_fields.second_time.Goals as goal

pub returns-in_err-not_after : goal.returns-in_err-not_after
returns-in_err-not_after c =
    rw c.from_residual-in_err-not_after.ensures (λ value e. c.in_err-not_after.ensures value.not_after (ends_of _ _ _ value c.in_ok-_first.ensures e).1)

pub returns : goal.returns
returns c = ap (kid 1) c.in_ok-_first.ensures ∙ ap Some c.in_ok-not_after.ensures
