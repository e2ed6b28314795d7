use Rattle.pe_core.proofs.Layouts.{headers_bound, section_bound}
use Rattle.pe_core.proofs.laws.whole_image_is_bound.Goals as goal

pub returns : goal.returns
returns c = record { headers = headers_bound; sections = section_bound }
