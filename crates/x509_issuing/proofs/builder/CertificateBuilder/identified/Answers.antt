use Rattle.std.proofs.Common.{[], ◌∷◌, inl}
use Rattle.std.proofs.lemmas.Result.{err_from_is_err_and}
use Rattle.der_core.proofs.TakenSteps.{refused_before, refused_behind}
use Rattle.x509_core.specs.declared.error.CertError.TheVariants as errors
use Rattle.x509_issuing.specs.Building.{identifier_step, subject_steps}
use Rattle.x509_issuing.proofs.Subjects.{subject_taken}
use Rattle.x509_issuing.proofs.builder.CertificateBuilder.identified.Goals as goal

pub returns-in_err-name-clause-answer : goal.returns-in_err-name-clause-answer
returns-in_err-name-clause-answer g c =
    let p = err_from_is_err_and c.from_residual.result c.from_residual.ensures.1 in
    rw (p.1, p.2)
    (refused_before errors.Memory (subject_steps (g.S.Scheme.judge c.args.scheme.now) c.args.issuer.now.self_signed c.args.self.now c.args.issuer.now)
    (identifier_step (g.S.Scheme.judge c.args.scheme.now) c.args.self.now c.args.issuer.now ∷ []) c.in_err-name.field-0.0 c.in_err-name.ensures.answer)

pub returns-in-Err-clause-answer : goal.returns-in-Err-clause-answer
returns-in-Err-clause-answer g c =
    refused_behind errors.Memory (subject_steps (g.S.Scheme.judge c.args.scheme.now) c.args.issuer.now.self_signed c.args.self.now c.args.issuer.now)
    (identifier_step (g.S.Scheme.judge c.args.scheme.now) c.args.self.now c.args.issuer.now ∷ []) c.no_key_id.result
    (subject_taken (g.S.Scheme.judge c.args.scheme.now) c.args.issuer.now.self_signed c.args.self.now c.args.issuer.now c.in_ok-name.name.name
    c.in_ok-name.key.info c.in_ok-name.ensures.answer)
    (inl (inl (c.in_ok-name.name.name, c.in_ok-name.key.info, c.in_ok-name.ensures.answer, (c.in-Err.source, c.no_key_id.ensures, c.in-Err.ensures.answer))))
