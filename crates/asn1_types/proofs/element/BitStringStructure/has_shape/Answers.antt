use Rattle.std.proofs.Common.{ap, ◌∙◌}
use Rattle.der_core.specs.DerElement.{Primitive}
use Rattle.asn1_types.proofs.element.BitStringStructure.has_shape.Goals as goal

pub returns-in-Some-clause-fits : goal.returns-in-Some-clause-fits
returns-in-Some-clause-fits c = λ w.
    let has = c.is_content.ensures.formed.0 w in
    (record { unused = has.0; payload = has.1; formed = has.3 }, c.in-Some.ensures ∙ ap (Primitive 0x03) has.2)
