use Rattle.x509_core.proofs.Alike.{say_the_same}
use Rattle.x509_core.proofs.laws.elements_and_values_say_the_same.Goals as goal

pub returns : goal.returns
returns c = say_the_same
