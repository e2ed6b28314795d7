use Rattle.authenticode_parts.proofs.CarriedCertificates.{all_kept}
use Rattle.authenticode_parts.proofs.carrying.kept_certificates.Goals as goal

pub returns : goal.returns
returns c = all_kept _ _ _ c.loop-certificate.invariant c.in_default.ensures.cases
