use Rattle.x509_types.proofs.Spellings.{attribute_spelling}
use Rattle.x509_types.proofs.laws.attributes_are_written_as_read.Goals as goal

pub returns : goal.returns
returns c = attribute_spelling
