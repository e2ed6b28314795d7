use Rattle.x509_core.proofs.Anew.{written_alike}
use Rattle.x509_core.proofs.laws.certificates_are_written_as_read.Goals as goal

pub returns : goal.returns
returns c = written_alike
