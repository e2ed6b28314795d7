use Rattle.x509_types.proofs.Same.{same_versions}
use Rattle.x509_types.proofs.certificate.tbs_certificate.is_same_version.Goals as goal

pub returns : goal.returns
returns c = same_versions _ _ _ c.eq.ensures
