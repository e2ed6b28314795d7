use Rattle.std.proofs.Common.{false, Some, Err, inl, sym, ap, subst, ◌∙◌}
use Rattle.std.proofs.lemmas.Result.{err_from_is_err_and}
use Rattle.der_core.specs.Steps.{IsFirstUntaken}
use Rattle.der_core.proofs.TakenSteps.{refused_before, refused_behind}
use Rattle.key_core.specs.Signing.{IsKeyPair, arithmetic}
use Rattle.x509_core.specs.OwnedCertificate.{KeptCertificate}
use Rattle.x509_core.proofs.Validity.{same_some}
use Rattle.x509_issuing.specs.declared.builder.CertificateBuilder.{CertificateBuilder}
use Rattle.x509_issuing.specs.declared.builder.SubjectInfos.TheVariants as subjects
use Rattle.ca_register.specs.Granting.{IsChildBuilder}
use Rattle.ca_register.specs.Issuing.{record_steps, signed_steps}
use Rattle.ca_register.specs.declared.error.IssueError.{IssueError}
use Rattle.ca_register.specs.declared.error.IssueError.TheVariants as errors
use Rattle.ca_register.proofs.Builders.{issued_taken, taken_both}
use Rattle.ca_register.proofs.Issued.{for_subject, granted_for, issuer_has, kept_taken, kept_untaken, lent_ordered, returned_key}
use Rattle.ca_register.proofs.Kept.{kept_child}
use Rattle.ca_register.proofs.RecordSteps.{one_untaken, record_is_no_key, record_steps_decide, taken_untaken}
use Rattle.ca_register.proofs.register.Register.child.Goals as goal

pub expect_issuer-requires : goal.expect_issuer-requires
expect_issuer-requires g c =
    let register = c.args.self.now in
    let judge = g.S.Scheme.judge register.scheme in
    let entries = register.entries.items in
    let certificates = register.certificates.items in
    record { ordered = lent_ordered judge entries certificates register.kept c.args.issuer c.deref.result.now c.deref.ensures.value }

pub returns-in_err-expect_issuer-clause-answer : goal.returns-in_err-expect_issuer-clause-answer
returns-in_err-expect_issuer-clause-answer g c =
    let register = c.args.self.now in
    let judge = g.S.Scheme.judge register.scheme in
    let entries = register.entries.items in
    let certificates = register.certificates.items in
    let untaken = kept_untaken judge entries certificates register.kept c.args.issuer c.deref.result.now c.deref.ensures.value c.in_err-expect_issuer.field-0.0
    c.in_err-expect_issuer.ensures in
    let p = err_from_is_err_and c.from_residual.result c.from_residual.ensures.1 in
    rw (p.1, p.2) (refused_before errors.Memory (record_steps entries c.args.issuer)
    (signed_steps (arithmetic judge (g.S.Scheme.signs register.scheme) (g.S.Scheme.pair register.scheme)) c.args.word certificates c.args.issuer
    (IsChildBuilder c.args.grant (subjects.Named c.args.name c.args.public_key) false c.args.issuer_key.now))
    c.in_err-expect_issuer.field-0.0 (inl untaken))

pub returns-in_err-expect_issuer-clause-recorded : goal.returns-in_err-expect_issuer-clause-recorded
returns-in_err-expect_issuer-clause-recorded g c = λ e first.
    let register = c.args.self.now in
    let judge = g.S.Scheme.judge register.scheme in
    let entries = register.entries.items in
    let certificates = register.certificates.items in
    let untaken = kept_untaken judge entries certificates register.kept c.args.issuer c.deref.result.now c.deref.ensures.value c.in_err-expect_issuer.field-0.0
    c.in_err-expect_issuer.ensures in
    let p = err_from_is_err_and c.from_residual.result c.from_residual.ensures.1 in
    p.1 ∙ ap Err
    (p.2 ∙ one_untaken (record_steps entries c.args.issuer) c.in_err-expect_issuer.field-0.0 e (record_steps_decide entries c.args.issuer) untaken first)

pub returns-in_err-expect_issuer-clause-paired : goal.returns-in_err-expect_issuer-clause-paired
returns-in_err-expect_issuer-clause-paired g c = λ parent source is_parent paired is.
    let register = c.args.self.now in
    let judge = g.S.Scheme.judge register.scheme in
    let entries = register.entries.items in
    let certificates = register.certificates.items in
    let untaken = kept_untaken judge entries certificates register.kept c.args.issuer c.deref.result.now c.deref.ensures.value c.in_err-expect_issuer.field-0.0
    c.in_err-expect_issuer.ensures in
    let p = err_from_is_err_and c.from_residual.result c.from_residual.ensures.1 in
    record_is_no_key entries c.args.issuer source (subst (λ (x : IssueError). IsFirstUntaken (record_steps entries c.args.issuer) x)
    (sym p.2 ∙ returned_key c.from_residual.result p.0 (errors.WrongKey source) p.1 is) untaken)

pub issued_cert-requires-clause-unidentified : goal.issued_cert-requires-clause-unidentified
issued_cert-requires-clause-unidentified g c = ap (λ (b : CertificateBuilder). b.authority_key_identifier) c.subject-builder.ensures ∙ c.granted.ensures.rest.0

pub issued_cert-requires-clause-algorithm : goal.issued_cert-requires-clause-algorithm
issued_cert-requires-clause-algorithm g c = ap (λ (b : CertificateBuilder). b.signature_hash_type) c.subject-builder.ensures
    ∙ c.granted.ensures.granted.algorithm

pub returns-in_err-cert-clause-answer : goal.returns-in_err-cert-clause-answer
returns-in_err-cert-clause-answer g c =
    let register = c.args.self.now in
    let judge = g.S.Scheme.judge register.scheme in
    let entries = register.entries.items in
    let certificates = register.certificates.items in
    let taken = kept_taken judge entries certificates register.kept c.args.issuer c.deref.result.now c.deref.ensures.value c.in_ok-expect_issuer.ensures in
    let has = issuer_has judge entries certificates register.kept c.args.issuer c.deref.result.now c.deref.ensures.value c.in_ok-expect_issuer.ensures
    c.index-parent.result.now c.index-parent.ensures in
    let for = (for_subject c.args.grant (subjects.Named c.args.name c.args.public_key)
    false c.granted.result c.subject-builder.result c.granted.ensures.granted c.granted.ensures.rest.1 c.subject-builder.ensures) in
    let p = err_from_is_err_and c.from_residual-in_err-cert.result c.from_residual-in_err-cert.ensures.1 in
    rw (p.1, p.2) (refused_behind errors.Memory (record_steps entries c.args.issuer)
    (signed_steps (arithmetic judge (g.S.Scheme.signs register.scheme) (g.S.Scheme.pair register.scheme)) c.args.word certificates c.args.issuer
    (IsChildBuilder c.args.grant (subjects.Named c.args.name c.args.public_key) false c.args.issuer_key.now))
    c.in_err-cert.field-0.0 taken
    (c.in_err-cert.ensures.answer c.args.grant (subjects.Named c.args.name c.args.public_key) false certificates c.args.issuer for has))

pub returns-in_err-cert-clause-recorded : goal.returns-in_err-cert-clause-recorded
returns-in_err-cert-clause-recorded g c = λ e first.
    let register = c.args.self.now in
    let judge = g.S.Scheme.judge register.scheme in
    let entries = register.entries.items in
    let certificates = register.certificates.items in
    let taken = kept_taken judge entries certificates register.kept c.args.issuer c.deref.result.now c.deref.ensures.value c.in_ok-expect_issuer.ensures in
    absurd (taken_untaken (record_steps entries c.args.issuer) e (record_steps_decide entries c.args.issuer) taken first)

pub returns-in_err-cert-clause-paired : goal.returns-in_err-cert-clause-paired
returns-in_err-cert-clause-paired g c = λ parent source is_parent paired is.
    let register = c.args.self.now in
    let judge = g.S.Scheme.judge register.scheme in
    let entries = register.entries.items in
    let certificates = register.certificates.items in
    let has = issuer_has judge entries certificates register.kept c.args.issuer c.deref.result.now c.deref.ensures.value c.in_ok-expect_issuer.ensures
    c.index-parent.result.now c.index-parent.ensures in
    let p = err_from_is_err_and c.from_residual-in_err-cert.result c.from_residual-in_err-cert.ensures.1 in
    let here = same_some parent c.index-parent.result.now (sym is_parent ∙ has) in
    c.in_err-cert.ensures.paired source (subst (λ (k : KeptCertificate).
    IsKeyPair (g.S.Scheme.pair register.scheme) c.args.issuer_key.now k.certificate.tbs_certificate.subject_public_key_info) here paired)
    (ap Err (sym p.2 ∙ returned_key c.from_residual-in_err-cert.result p.0 (errors.WrongKey source) p.1 is))

pub add-requires : goal.add-requires
add-requires g c =
    let register = c.args.self.now in
    let judge = g.S.Scheme.judge register.scheme in
    let entries = register.entries.items in
    let certificates = register.certificates.items in
    let taken = kept_taken judge entries certificates register.kept c.args.issuer c.deref.result.now c.deref.ensures.value c.in_ok-expect_issuer.ensures in
    let has = issuer_has judge entries certificates register.kept c.args.issuer c.deref.result.now c.deref.ensures.value c.in_ok-expect_issuer.ensures
    c.index-parent.result.now c.index-parent.ensures in
    let granted = (granted_for c.args.grant (subjects.Named c.args.name c.args.public_key)
    c.granted.result c.subject-builder.result c.granted.ensures.granted c.subject-builder.ensures) in
    kept_child judge entries certificates register.kept c.args.issuer c.args.grant c.index-parent.result.now c.in_ok-cert.cert taken has
    (λ key had. c.in_ok-cert.ensures.recorded (record { issuer = Some c.args.issuer; grant = c.args.grant }) key granted had)

pub returns-in_err-add-clause-recorded : goal.returns-in_err-add-clause-recorded
returns-in_err-add-clause-recorded g c = λ e first.
    let register = c.args.self.now in
    let judge = g.S.Scheme.judge register.scheme in
    let entries = register.entries.items in
    let certificates = register.certificates.items in
    let taken = kept_taken judge entries certificates register.kept c.args.issuer c.deref.result.now c.deref.ensures.value c.in_ok-expect_issuer.ensures in
    absurd (taken_untaken (record_steps entries c.args.issuer) e (record_steps_decide entries c.args.issuer) taken first)

pub returns-clause-answer : goal.returns-clause-answer
returns-clause-answer g c =
    let register = c.args.self.now in
    let judge = g.S.Scheme.judge register.scheme in
    let entries = register.entries.items in
    let certificates = register.certificates.items in
    let taken = kept_taken judge entries certificates register.kept c.args.issuer c.deref.result.now c.deref.ensures.value c.in_ok-expect_issuer.ensures in
    let has = issuer_has judge entries certificates register.kept c.args.issuer c.deref.result.now c.deref.ensures.value c.in_ok-expect_issuer.ensures
    c.index-parent.result.now c.index-parent.ensures in
    let for = (for_subject c.args.grant (subjects.Named c.args.name c.args.public_key)
    false c.granted.result c.subject-builder.result c.granted.ensures.granted c.granted.ensures.rest.1 c.subject-builder.ensures) in
    let issued = c.in_ok-cert.ensures.answer c.args.grant (subjects.Named c.args.name c.args.public_key) false certificates c.args.issuer for has in
    taken_both (record_steps entries c.args.issuer)
    (signed_steps (arithmetic judge (g.S.Scheme.signs register.scheme) (g.S.Scheme.pair register.scheme)) c.args.word certificates c.args.issuer
    (IsChildBuilder c.args.grant (subjects.Named c.args.name c.args.public_key) false c.args.issuer_key.now))
    taken (issued_taken (arithmetic judge (g.S.Scheme.signs register.scheme) (g.S.Scheme.pair register.scheme)) c.args.word certificates c.args.issuer
    (IsChildBuilder c.args.grant (subjects.Named c.args.name c.args.public_key) false c.args.issuer_key.now) c.in_ok-cert.cert issued)

pub returns-clause-added : goal.returns-clause-added
returns-clause-added g c =
    let register = c.args.self.now in
    let judge = g.S.Scheme.judge register.scheme in
    let entries = register.entries.items in
    let certificates = register.certificates.items in
    let has = issuer_has judge entries certificates register.kept c.args.issuer c.deref.result.now c.deref.ensures.value c.in_ok-expect_issuer.ensures
    c.index-parent.result.now c.index-parent.ensures in
    let for = (for_subject c.args.grant (subjects.Named c.args.name c.args.public_key)
    false c.granted.result c.subject-builder.result c.granted.ensures.granted c.granted.ensures.rest.1 c.subject-builder.ensures) in
    let issued = c.in_ok-cert.ensures.answer c.args.grant (subjects.Named c.args.name c.args.public_key) false certificates c.args.issuer for has in
    record { place_is = c.in_ok-add.ensures.place; recorded = c.in_ok-add.ensures.ok.0; cert = c.in_ok-cert.cert; is = issued; kept = c.in_ok-add.ensures.ok.1 }

pub returns-clause-recorded : goal.returns-clause-recorded
returns-clause-recorded g c = λ e first.
    let register = c.args.self.now in
    let judge = g.S.Scheme.judge register.scheme in
    let entries = register.entries.items in
    let certificates = register.certificates.items in
    let taken = kept_taken judge entries certificates register.kept c.args.issuer c.deref.result.now c.deref.ensures.value c.in_ok-expect_issuer.ensures in
    absurd (taken_untaken (record_steps entries c.args.issuer) e (record_steps_decide entries c.args.issuer) taken first)
