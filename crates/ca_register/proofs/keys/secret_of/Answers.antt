use Rattle.std.proofs.Common.{refl}
use Rattle.der_core.specs.Encoding.{length_octets}
use Rattle.ca_register.proofs.keys.secret_of.Goals as goal

pub returns : goal.returns
unfolding length_octets
returns c = refl
