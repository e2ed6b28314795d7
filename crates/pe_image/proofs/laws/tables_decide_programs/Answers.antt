use Rattle.pe_image.proofs.SameTables.{answered}
use Rattle.pe_image.proofs.laws.tables_decide_programs.Goals as goal

pub returns : goal.returns
returns c = λ a b policy octets result same h. answered a b policy octets same result h
