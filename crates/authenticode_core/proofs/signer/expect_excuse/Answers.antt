use Rattle.std.proofs.Common.{◌⊎◌, ◌≡◌, refl, sym, subst}
use Rattle.std.proofs.lemmas.Bool.{false≢true}
use Rattle.std.proofs.lemmas.Result.{err_from_is_err_and}
use Rattle.cms_types.specs.SignedView.{data_elements}
use Rattle.x509_types.specs.CertificateElements.{CertificateElements}
use Rattle.authenticode_core.specs.Excuses.{HasBadStamp, HasNoExcuse, HasReason}
use Rattle.authenticode_core.specs.declared.error.AuthenticodeError.TheVariants as errors
use Rattle.authenticode_core.proofs.SignerOrder.{given, has_expired, no_excuse, none_given, reason_is_enough, stamped_or_memory, unbegun_or_memory}
use Rattle.authenticode_core.proofs.signer.expect_excuse.Goals as goal

pub returns-then-not-reports_expiry : goal.returns-then-not-reports_expiry
returns-then-not-reports_expiry g c = λ bag place signer is same breaks.
    rw c.from.ensures (unbegun_or_memory (g.S.Scheme.judge c.args.scheme.now) c.args.policy.now (data_elements c.args.signed_data.now)
    bag place signer is c.args.error breaks (λ returns. absurd (false≢true (c.if-not-reports_expiry.ensures.1 returns))))

pub returns-in_err-excuse : goal.returns-in_err-excuse
returns-in_err-excuse g c = λ bag place signer is same breaks.
    let p = err_from_is_err_and c.from_residual.result c.from_residual.ensures.1 in
    let f = data_elements c.args.signed_data.now in
    let policy = c.args.policy.now in
    let judge = g.S.Scheme.judge c.args.scheme.now in
    let e = c.in_err-excuse.field-0.0 in
    rw (p.1, p.2) (stamped_or_memory judge policy f bag place signer is c.args.error e breaks (c.if-not-reports_expiry.ensures.0 refl)
    (subst (λ (x : CertificateElements). HasBadStamp judge policy f bag x e ⊎ (e ≡ errors.Memory)) (sym same) (c.in_err-excuse.ensures bag is.is_bag)))

pub returns-in-Some : goal.returns-in-Some
returns-in-Some g c = λ bag place signer is same breaks.
    let f = data_elements c.args.signed_data.now in
    let policy = c.args.policy.now in
    let judge = g.S.Scheme.judge c.args.scheme.now in
    reason_is_enough judge policy f bag place signer is c.in-Some.excuse
    (has_expired judge policy f bag place signer is c.args.error breaks (c.if-not-reports_expiry.ensures.0 refl))
    (subst (λ (x : CertificateElements). HasReason judge policy f bag x c.in-Some.excuse) (sym same)
    (given _ c.in-Some.excuse _ _ c.in-Some.is (c.in_ok-excuse.ensures bag is.is_bag)))

pub returns-in-None : goal.returns-in-None
returns-in-None g c = λ bag place signer is same breaks.
    let f = data_elements c.args.signed_data.now in
    let policy = c.args.policy.now in
    let judge = g.S.Scheme.judge c.args.scheme.now in
    rw c.from-in-None.ensures (no_excuse judge policy f bag place signer is c.args.error breaks (c.if-not-reports_expiry.ensures.0 refl)
    (subst (λ (x : CertificateElements). HasNoExcuse f bag x) (sym same) (none_given _ _ _ c.in-None.is (c.in_ok-excuse.ensures bag is.is_bag))))
