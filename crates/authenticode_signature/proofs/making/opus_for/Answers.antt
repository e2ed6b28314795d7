use Rattle.std.proofs.Common.{[], ◌∷◌, sym, subst}
use Rattle.std.specs.Option.{option_copied}
use Rattle.authenticode_core.specs.declared.error.AuthenticodeError.TheVariants as errors
use Rattle.der_core.specs.Steps.{RefusesBySteps}
use Rattle.authenticode_signature.specs.Making.{name_step}
use Rattle.authenticode_signature.proofs.MadeSteps.{bad_name}
use Rattle.authenticode_signature.proofs.making.opus_for.Goals as goal

pub returns-in-Err-clause-answer : goal.returns-in-Err-clause-answer
returns-in-Err-clause-answer c =
    subst (RefusesBySteps errors.Memory (name_step (option_copied c.args.name) ∷ [])) (sym c.from.ensures)
    (bad_name (option_copied c.args.name) c.in-Err.source c.in-Err.ensures.answer)
