use Rattle.std.proofs.Common.{Some, None, ap}
use Rattle.der_core.specs.BorrowedOption.{at_option}
use Rattle.name_types.proofs.Parties.{one_string, two_strings}
use Rattle.name_types.proofs.edi_party_name.EdiPartyNameStructure.has_shape.Goals as goal

pub returns-then-has_shape-clause-fits : goal.returns-then-has_shape-clause-fits
returns-then-has_shape-clause-fits c = λ w.
    let assigner = c.has_shape.ensures.fits c.if-has_shape.true in
    let party = c.has_shape-then-has_shape.ensures.fits w in (
      record { name_assigner = Some assigner.0; party_name = party.0 },
      two_strings _ _ _ _ assigner.0 party.0 c.in-Some-Some-default.ensures (ap at_option c.in-Some-Some-default.field-0-0-is) assigner.1 party.1,
    )

pub returns-in-Some-None-default-clause-fits : goal.returns-in-Some-None-default-clause-fits
returns-in-Some-None-default-clause-fits c = λ w.
    let party = c.has_shape-in-Some-None-default.ensures.fits w in (
      record { name_assigner = None; party_name = party.0 },
      one_string _ _ _ party.0 c.in-Some-None-default.ensures (ap at_option c.in-Some-None-default.field-0-0-is) party.1,
    )
