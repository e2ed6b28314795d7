use Rattle.signature_questions.proofs.borrowed_key.asked_of.Goals as goal

pub returns : goal.returns
returns c =
    let shape = c.has_shape.ensures.fits c.if-not-has_shape.false in
    (shape.0, shape.1.0, c.in_ok-alg.ensures shape.0 (c.in_ok-key.ensures shape.0 shape.1))
