use Rattle.name_types.proofs.Elements.{lent_string, no_string}
use Rattle.name_types.proofs.directory_string.DirectoryStringStructure.has_shape.Goals as goal
use Rattle.std.proofs.lemmas.Bool.{iff_false}

pub returns-clause-fits : goal.returns-clause-fits
returns-clause-fits c = λ w. lent_string _ _ _ _ c.args.elem.is.1 (c.is_string_tag.ensures.0 w)

pub returns-clause-unfit : goal.returns-clause-unfit
returns-clause-unfit c = λ no string e. no_string _ _ _ _ c.args.elem.is.1 (iff_false c.is_string_tag.ensures no) string e
