use Rattle.der_core.specs.Facts.Fronts.{fronts}
use Rattle.der_core.proofs.laws.no_encoding_begins_another.Goals as goal

pub returns : goal.returns
returns c = λ a b x y der der'. fronts a b x y der.formed der'.formed der.short der'.short
