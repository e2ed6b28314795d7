use Rattle.xgolden_check.proofs.path.answer_of.Goals as goal

pub places_of-requires : goal.places_of-requires
places_of-requires c = (c.in-Some.elem.is.0, c.in-Some-read.ensures)
