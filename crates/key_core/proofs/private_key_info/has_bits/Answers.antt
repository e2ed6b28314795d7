use Rattle.std.proofs.Common.{ap}
use Rattle.std.specs.Option.{option_copied}
use Rattle.key_core.proofs.InfoFields.{bits_of}
use Rattle.key_core.proofs.private_key_info.has_bits.Goals as goal

pub returns-in-Some-clause-fits : goal.returns-in-Some-clause-fits
returns-in-Some-clause-fits c = λ w. bits_of _ _ (ap option_copied c.in-Some.is) (c.is_content.ensures.formed.0 w)
