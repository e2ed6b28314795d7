use Rattle.signature_questions.proofs.BorrowedAlgorithms.{unshaped, unnamed, named_as}
use Rattle.signature_questions.proofs.question.algorithm_of.Goals as goal

pub returns-then-not-has_shape : goal.returns-then-not-has_shape
returns-then-not-has_shape c =
    unshaped _ _ _ c.in_ok-elem.ensures c.args.certificate.now.parts.algorithm.is.1.0 c.algorithm.ensures (c.has_shape.ensures.unfit c.if-not-has_shape.true)

pub returns-in_err-named : goal.returns-in_err-named
returns-in_err-named c =
    rw c.from_residual-in_err-named.ensures
    (unnamed _ _ _ c.in_ok-elem.ensures c.args.certificate.now.parts.algorithm.is.1.0 c.algorithm.ensures _ _ _ _ c.in_ok-kids.ensures c.in_ok-next.ensures
    c.in_ok-oid.ensures c.in_err-named.ensures.named)

pub returns : goal.returns
returns c =
    named_as _ _ _ c.in_ok-elem.ensures c.args.certificate.now.parts.algorithm.is.1.0 c.algorithm.ensures _ _ _ _ c.in_ok-kids.ensures c.in_ok-next.ensures
    c.in_ok-oid.ensures
    _ c.in_ok-named.ensures.name (c.has_shape.ensures.fits c.if-not-has_shape.false)
