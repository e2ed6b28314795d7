use Rattle.std.proofs.Common.{◌≡◌, Result, Err, inr, refl, sym, ap, ◌∙◌}
use Rattle.x509_core.specs.OwnedCertificate.{KeptCertificate}
use Rattle.x509_issuing.specs.declared.builder.CertificateBuilder.{CertificateBuilder}
use Rattle.ca_register.specs.declared.error.IssueError.{IssueError}
use Rattle.std.proofs.Math.Logic.{∥∥₁_map}
use Rattle.std.proofs.lemmas.Result.{err_from_is_err_and}
use Rattle.key_core.specs.Signing.{arithmetic}
use Rattle.ca_register.specs.Granting.{IsChildBuilder}
use Rattle.ca_register.proofs.Builders.{child_builder, child_signed, child_unbuilt, granted_under, if_signed, names_algorithm, never_wrong, unbuilt_is_no_key}
use Rattle.ca_register.proofs.Children.{certified, recorded}
use Rattle.ca_register.proofs.issuing.issued_cert.Goals as goal

same_error : (a b : IssueError) → ◌≡◌ {A = Result KeptCertificate IssueError} (Err a) (Err b) → a ≡ b
same_error a b e = cc

pub returns-in_err-issuer_cert-clause-answer : goal.returns-in_err-issuer_cert-clause-answer
returns-in_err-issuer_cert-clause-answer g c = λ grant subject inherits certificates issuer for has.
    let p = err_from_is_err_and c.from_residual.result c.from_residual.ensures.1 in
    rw (p.1, p.2) (inr refl)

pub returns-in-Ok-clause-answer : goal.returns-in-Ok-clause-answer
returns-in-Ok-clause-answer g c = λ grant subject inherits certificates issuer for has.
    child_signed (arithmetic (g.S.Scheme.judge c.args.scheme.now) (g.S.Scheme.signs c.args.scheme.now) (g.S.Scheme.pair c.args.scheme.now))
    c.args.word certificates issuer
    (IsChildBuilder grant subject inherits c.args.issuer_key.now) c.args.parent.now has _
    (child_builder grant subject inherits c.args.issuer_key c.args.parent.now c.args.builder _ for c.requires.unidentified c.in_ok-issuer_cert.ensures.ok)
    c.in-Ok.cert c.in-Ok.ensures.answer c.signed_cert.result c.signed_cert.ensures

pub returns-in-Ok-clause-recorded : goal.returns-in-Ok-clause-recorded
returns-in-Ok-clause-recorded g c =
    let judge = g.S.Scheme.judge c.args.scheme.now in
    let signs = g.S.Scheme.signs c.args.scheme.now in
    let pair = g.S.Scheme.pair c.args.scheme.now in
    let parent = c.args.parent.now in
    let cert = c.in-Ok.cert in
    let built = c.in-Ok.ensures in
    let under = c.in_ok-issuer_cert.ensures.ok in
    if_signed _ judge parent cert c.signed_cert.result c.signed_cert.ensures
    (λ by_key entry key granted had. ∥∥₁_map cert.spelled (λ are. (
      recorded judge signs pair _ c.args.word cert built.answer are built.constrained built.identified built.distinct entry
          (granted_under entry.grant c.args.issuer_key parent c.args.builder _ granted under),
      certified judge signs pair _ c.args.word cert built.answer are built.constrained built.identified built.distinct parent c.args.issuer_key c.args.builder
          under key had (c.in_ok-issuer_cert.ensures.identified key had) by_key,
    )))

pub returns-in-Ok-clause-paired : goal.returns-in-Ok-clause-paired
returns-in-Ok-clause-paired g c = λ source paired is.
    never_wrong (g.S.Scheme.judge c.args.scheme.now) c.args.parent.now c.in-Ok.cert c.signed_cert.result c.signed_cert.ensures
    (c.in-Ok.ensures.linked _ c.args.parent.now (ap (λ (b : CertificateBuilder). b.issuer_infos) c.in_ok-issuer_cert.ensures.ok.is) paired) source is

pub returns-in-Err-clause-answer : goal.returns-in-Err-clause-answer
returns-in-Err-clause-answer g c = λ grant subject inherits certificates issuer for has.
    rw c.unbuilt.ensures
    (child_unbuilt (arithmetic (g.S.Scheme.judge c.args.scheme.now) (g.S.Scheme.signs c.args.scheme.now) (g.S.Scheme.pair c.args.scheme.now))
    c.args.word certificates issuer
    (IsChildBuilder grant subject inherits c.args.issuer_key.now) c.args.parent.now has _
    (child_builder grant subject inherits c.args.issuer_key c.args.parent.now c.args.builder _ for c.requires.unidentified c.in_ok-issuer_cert.ensures.ok)
    c.in-Err.source c.in-Err.ensures.answer)

pub returns-in-Err-clause-paired : goal.returns-in-Err-clause-paired
returns-in-Err-clause-paired g c = λ source paired is. unbuilt_is_no_key c.in-Err.source source (sym c.unbuilt.ensures ∙ same_error _ _ is)

pub signed_cert-requires : goal.signed_cert-requires
signed_cert-requires g c = record {
  named = names_algorithm (g.S.Scheme.judge c.args.scheme.now) (g.S.Scheme.signs c.args.scheme.now)
      (g.S.Scheme.pair c.args.scheme.now) _ c.args.word c.in-Ok.cert c.in-Ok.ensures.answer _
      (ap (λ (b : CertificateBuilder). b.signature_hash_type) c.in_ok-issuer_cert.ensures.ok.is ∙ c.requires.algorithm);
}
