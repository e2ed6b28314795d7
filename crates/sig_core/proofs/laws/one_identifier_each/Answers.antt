use Rattle.sig_core.proofs.Variants.{identifier_same}
use Rattle.sig_core.proofs.laws.one_identifier_each.Goals as goal

pub returns : goal.returns
returns c = identifier_same
