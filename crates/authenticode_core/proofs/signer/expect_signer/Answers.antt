use Rattle.std.proofs.Common.{subst}
use Rattle.std.proofs.lemmas.Result.{err_from_is_err_and}
use Rattle.cms_types.specs.SignedView.{data_elements}
use Rattle.cms_types.specs.SignerView.{signer_elements_at}
use Rattle.x509_core.specs.Chain.{IsDated, LacksDate}
use Rattle.x509_core.specs.declared.validator.ChainChecks.{ChainChecks}
use Rattle.x509_types.specs.CertificateView.{view_elements}
use Rattle.authenticode_core.proofs.SignerOrder.{kept_signer, no_signer, undated, unnamed, vouched_or_not}
use Rattle.authenticode_core.proofs.signer.expect_signer.Goals as goal

pub returns-in_err-first : goal.returns-in_err-first
returns-in_err-first g c =
    let p = err_from_is_err_and c.from_residual.result c.from_residual.ensures.1 in
    rw (p.1, p.2)
    (no_signer (g.S.Scheme.judge c.args.scheme.now) c.args.policy.now (data_elements c.args.signed_data.now) c.in_err-first.field-0.0 c.in_err-first.ensures)

pub returns-in_err-named : goal.returns-in_err-named
returns-in_err-named g c =
    let p = err_from_is_err_and c.from_residual-in_err-named.result c.from_residual-in_err-named.ensures.1 in
    rw (p.1, p.2) (unnamed (g.S.Scheme.judge c.args.scheme.now) c.args.policy.now (data_elements c.args.signed_data.now)
    (signer_elements_at c.in_ok-first.first) c.in_err-named.field-0.0 c.in_ok-first.ensures c.in_err-named.ensures)

pub returns-in_err-expect_date : goal.returns-in_err-expect_date
returns-in_err-expect_date g c =
    let p = err_from_is_err_and c.from_residual-in_err-expect_date.result c.from_residual-in_err-expect_date.ensures.1 in
    rw (p.1, p.2) (undated (g.S.Scheme.judge c.args.scheme.now) c.args.policy.now (data_elements c.args.signed_data.now) c.in_ok-named.named.place
    (view_elements c.in_ok-named.named.certificate) c.in_err-expect_date.field-0.0 c.in_ok-named.ensures
    (subst (λ (checks : ChainChecks). LacksDate checks c.in_err-expect_date.field-0.0) c.checks-checks.ensures c.in_err-expect_date.ensures))

pub returns : goal.returns
returns g c =
    let s = c.in_ok-named.ensures in
    let is = kept_signer (data_elements c.args.signed_data.now) c.in_ok-named.named.place (view_elements c.in_ok-named.named.certificate)
    c.in_ok-signer.signer s c.in_ok-signer.ensures in
    vouched_or_not (g.S.Scheme.judge c.args.scheme.now) c.args.policy.now (data_elements c.args.signed_data.now)
    s.0 c.in_ok-named.named.place c.in_ok-signer.signer is
    (subst IsDated c.checks-checks.ensures c.in_ok-expect_date.ensures) c.expect_valid_and_vouched.result (c.expect_valid_and_vouched.ensures s.0 is)
