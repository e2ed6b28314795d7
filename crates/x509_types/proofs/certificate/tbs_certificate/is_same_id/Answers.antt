use Rattle.x509_types.proofs.Same.{same_ids}
use Rattle.x509_types.proofs.certificate.tbs_certificate.is_same_id.Goals as goal

pub returns : goal.returns
returns c = same_ids _ _ _ c.eq.ensures
