use Rattle.x509_types.proofs.Same.{same_extensions}
use Rattle.x509_types.proofs.certificate.tbs_certificate.are_same_extensions.Goals as goal

pub returns : goal.returns
returns c = same_extensions _ _ _ c.eq.ensures
