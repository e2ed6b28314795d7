use Rattle.std.proofs.Common.{ap, ◌∙◌}
use Rattle.der_core.specs.DerElement.{DerElement}
use Rattle.name_types.specs.GeneralName.{other_name_of}
use Rattle.name_types.proofs.other_name.OtherNameStructure.has_shape.Goals as goal

pub returns-in-Some-clause-fits : goal.returns-in-Some-clause-fits
returns-in-Some-clause-fits c = λ w.
    let type_id = c.has_shape.ensures.fits w in
    let value = c.in-Some.field-0-1.is in (
      record { type_id = type_id.0; value = record { element = value.0; der = value.1.0 } },
      c.in-Some.ensures ∙ ap (λ (e : DerElement). other_name_of e value.0) type_id.1,
    )
