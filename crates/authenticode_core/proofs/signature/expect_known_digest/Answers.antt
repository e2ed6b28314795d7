use Rattle.std.proofs.Common.{refl}
use Rattle.authenticode_core.proofs.signature.expect_known_digest.Goals as goal

pub returns-in-Some : goal.returns-in-Some
returns-in-Some c =
    c.in-Some.ensures c.args.signer.now.fields.digest_algorithm.is.0 (c.args.signer.now.fields.digest_algorithm.is.1.0, c.digest_algorithm.ensures)

pub returns-in-None : goal.returns-in-None
returns-in-None c =
    (c.in-None.ensures c.args.signer.now.fields.digest_algorithm.is.0 (c.args.signer.now.fields.digest_algorithm.is.1.0, c.digest_algorithm.ensures), _, refl)
