use Rattle.der_core.proofs.Rereading.{reread}
use Rattle.der_core.proofs.laws.values_are_read_again.Goals as goal

pub returns : goal.returns
returns g c = λ octets value read is answer. reread g.T.Structure.spells g.met.T.Structure.grammar.once octets value read is answer
