use Rattle.x509_types.proofs.Spelled.{read_of_fields}
use Rattle.x509_types.proofs.certificate.tbs_certificate.TbsCertificateStructure.read_at.Goals as goal

pub returns-in-Some : goal.returns-in-Some
returns-in-Some c = read_of_fields _ _ _ c.in-Some.ensures c.read.ensures
