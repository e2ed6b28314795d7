use Rattle.std.proofs.Common.{arith}
use Rattle.std.proofs.lemmas.Bool.{iff_false}
use Rattle.signature_questions.proofs.BorrowedKeys.{ed_fits, not_ed}
use Rattle.signature_questions.proofs.borrowed_key.BorrowedKey.ed25519.Goals as goal

pub returns-then-not-is_same : goal.returns-then-not-is_same
returns-then-not-is_same c = λ key lends alg bytes fits. not_ed c.args.self.now key lends (iff_false c.is_same.ensures c.if-not-is_same.true) alg bytes fits

pub returns : goal.returns
returns c = λ key lends. ed_fits c.args.self.now key lends (c.is_same.ensures.0 c.if-not-is_same.false) (omega (arith, c.if-self-ne-ED25519_LEN.false))
