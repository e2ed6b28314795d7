use Rattle.x509_types.proofs.extension.ExtensionStructure.read_at.Goals as goal

pub returns-in_default : goal.returns-in_default
returns-in_default c = λ e is. c.in_default.ensures _ _ _ is.fields
