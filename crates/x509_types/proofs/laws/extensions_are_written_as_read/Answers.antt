use Rattle.x509_types.proofs.Spellings.{extension_spelling}
use Rattle.x509_types.proofs.laws.extensions_are_written_as_read.Goals as goal

pub returns : goal.returns
returns c = extension_spelling
