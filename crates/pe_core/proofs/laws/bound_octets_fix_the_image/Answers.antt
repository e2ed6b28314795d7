use Rattle.pe_core.proofs.FixedImages.{same_parts}
use Rattle.pe_core.proofs.laws.bound_octets_fix_the_image.Goals as goal

pub returns : goal.returns
returns c = same_parts
