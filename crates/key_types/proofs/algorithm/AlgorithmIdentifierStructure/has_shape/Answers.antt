use Rattle.std.proofs.Common.{Option, ap, ◌∙◌}
use Rattle.der_core.specs.DerElement.{DerElement}
use Rattle.der_core.specs.BorrowedOption.{at_option}
use Rattle.asn1_types.specs.Elements.{object_identifier}
use Rattle.key_types.specs.AlgorithmIdentifier.{algorithm_of}
use Rattle.der_core.specs.Facts.BorrowedOption.{keep_option}
use Rattle.key_types.proofs.algorithm.AlgorithmIdentifierStructure.has_shape.Goals as goal

pub returns-in-Some-clause-fits : goal.returns-in-Some-clause-fits
returns-in-Some-clause-fits c = λ w.
    let oid = c.has_shape.ensures.fits w in
    let parameters = keep_option c.in-Some.fields.parameters in (
      record { oid = oid.0; parameters = parameters.0 },
      c.in-Some.ensures ∙ ap (λ (e : DerElement). algorithm_of e (at_option c.in-Some.fields.parameters)) oid.1
          ∙ ap (λ (p : Option DerElement). algorithm_of (object_identifier oid.0) p) parameters.1,
    )
