use Rattle.x509_issuing.proofs.Generating.{generated, self_signed}
use Rattle.x509_issuing.proofs.csr.Csr.generate_with_attributes.Goals as goal

pub returns-in-Ok-clause-answer : goal.returns-in-Ok-clause-answer
returns-in-Ok-clause-answer g c =
    generated (g.S.Scheme.judge c.args.scheme.now) (g.S.Scheme.signs c.args.scheme.now) (g.S.Scheme.pair c.args.scheme.now) c.args.subject
    c.args.private_key.now c.args.signature_hash_type c.args.attributes c.in-Ok.info c.signed.result c.in-Ok.ensures.answer c.signed.ensures.answer

pub returns-in-Ok-clause-verifies : goal.returns-in-Ok-clause-verifies
returns-in-Ok-clause-verifies g c =
    self_signed (g.S.Scheme.signs c.args.scheme.now) (g.S.Scheme.judge c.args.scheme.now) (g.S.Scheme.pair c.args.scheme.now)
    c.args.private_key.now c.args.signature_hash_type c.in-Ok.info c.signed.result c.signed.ensures.answer c.signed.ensures.verifies
