use Rattle.extension_types.proofs.AuthorityKeys.{of_fields}
use Rattle.std.proofs.Common.{sym, ◌∙◌}
use Rattle.der_core.specs.Facts.Answers.{found}
use Rattle.extension_types.proofs.authority_key_identifier.AuthorityKeyIdentifierStructure.has_shape.Goals as goal

pub returns-clause-fits : goal.returns-clause-fits
returns-clause-fits c = λ w. let f = found _ _ _ c.of.ensures (sym c.is_some.ensures ∙ w) in of_fields _ _ _ _ f.1
