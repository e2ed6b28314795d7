use Rattle.std.proofs.Common.{sym, ◌∙◌}
use Rattle.der_core.specs.Facts.Answers.{missing}
use Rattle.extension_types.proofs.basic_constraints.BasicConstraintsStructure.has_shape.Goals as goal

pub returns-clause-unfit : goal.returns-clause-unfit
returns-clause-unfit c = λ no. missing _ _ _ c.at.ensures (sym c.is_some.ensures ∙ no)
