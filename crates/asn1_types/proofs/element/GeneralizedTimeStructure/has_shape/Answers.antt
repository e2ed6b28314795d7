use Rattle.std.proofs.Common.{ap, sym, ◌∙◌}
use Rattle.der_core.specs.DerElement.{Primitive}
use Rattle.asn1_types.proofs.Times.{some_read}
use Rattle.asn1_types.proofs.element.GeneralizedTimeStructure.has_shape.Goals as goal

pub returns-in-Some-clause-fits : goal.returns-in-Some-clause-fits
returns-in-Some-clause-fits c = λ w.
    let read = some_read _ _ _ (sym c.is_some.ensures ∙ w) c.from_content.ensures.read in
    (read.0, c.in-Some.ensures ∙ ap (Primitive 0x18) read.1)
