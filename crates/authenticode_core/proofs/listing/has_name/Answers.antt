use Rattle.authenticode_core.proofs.CaNames.{read_name}
use Rattle.authenticode_core.proofs.listing.has_name.Goals as goal

pub returns : goal.returns
returns c = λ element is. read_name c.args.names.now c.in-Ok.read element c.is_among.result c.args.name.now is c.in-Ok.ensures.answer c.is_among.ensures
