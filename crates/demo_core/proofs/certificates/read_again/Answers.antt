use Rattle.std.proofs.Common.{◌∙◌}
use Rattle.demo_core.proofs.certificates.read_again.Goals as goal

pub returns : goal.returns
returns c = c.from_der.ensures.reread c.args.cert.now (c.deref.ensures.value ∙ c.in_ok-octets.ensures)
