use Rattle.std.proofs.Common.{sym, ◌∙◌}
use Rattle.signature_questions.proofs.BorrowedKeys.{ec_fits}
use Rattle.signature_questions.proofs.borrowed_key.BorrowedKey.ecdsa.Goals as goal

pub returns : goal.returns
returns c = λ key lends.
    rw c.ecdsa_alg.ensures (ec_fits c.args.self.now key lends c.args.hash c.in_ok-curve.curve (sym c.is_named.ensures ∙ c.if-not-is_named.false)
    c.in_ok-curve.ensures.0 c.in_ok-curve.ensures.1)
