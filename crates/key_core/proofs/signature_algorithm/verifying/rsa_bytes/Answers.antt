use Rattle.std.proofs.Common.{◌≡◌, rules}
use Rattle.std.proofs.lemmas.Result.{err_from_is_err_and}
use Rattle.key_types.specs.SubjectKey.{kind_of_key}
use Rattle.key_types.specs.declared.key_kind.KeyKind.TheVariants as kinds
use Rattle.key_core.proofs.Verifications.{rsa_refused}
use Rattle.key_core.proofs.signature_algorithm.verifying.rsa_bytes.Goals as goal

pub returns-in_err-to_pkcs1-clause-answer : goal.returns-in_err-to_pkcs1-clause-answer
returns-in_err-to_pkcs1-clause-answer c =
    let p = err_from_is_err_and c.from_residual-in_err-to_pkcs1.result c.from_residual-in_err-to_pkcs1.ensures.1 in
    let kind : kind_of_key c.args.public_key.now.info.subject_public_key ≡ kinds.Rsa = c.in_ok-expect_rsa.ensures in
    rw (p.1, p.2) (rsa_refused c.args.public_key.now.info c.in_err-to_pkcs1.field-0.0 kind c.in_err-to_pkcs1.ensures.answer)
