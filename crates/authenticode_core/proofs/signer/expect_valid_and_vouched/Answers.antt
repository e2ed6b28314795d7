use Rattle.std.proofs.Common.{refl}
use Rattle.std.proofs.lemmas.Result.{err_from_is_err_and}
use Rattle.cms_types.specs.SignedView.{data_elements}
use Rattle.authenticode_core.proofs.SignerOrder.{before_path, stands_over, unvouched_or_memory}
use Rattle.authenticode_core.proofs.signer.expect_valid_and_vouched.Goals as goal

pub returns-in_err-excuse : goal.returns-in_err-excuse
returns-in_err-excuse g c = λ bag is.
    let p = err_from_is_err_and c.from_residual.result c.from_residual.ensures.1 in
    rw (p.1, p.2) (before_path (g.S.Scheme.judge c.args.scheme.now) c.args.policy.now (data_elements c.args.signed_data.now)
    bag c.args.named.now.place c.args.signer is c.in_err-excuse.field-0.0
    (c.in_err-excuse.ensures bag c.args.named.now.place is))

pub returns-in_err-path : goal.returns-in_err-path
returns-in_err-path g c = λ bag is.
    let p = err_from_is_err_and c.from_residual-in_err-path.result c.from_residual-in_err-path.ensures.1 in
    rw (p.1, p.2) (unvouched_or_memory (g.S.Scheme.judge c.args.scheme.now) c.args.policy.now (data_elements c.args.signed_data.now)
    bag c.args.named.now.place c.args.signer is c.in_ok-excuse.excuse c.in_err-path.field-0.0
    (c.in_ok-excuse.ensures bag c.args.named.now.place is) (c.in_err-path.ensures bag is.is_bag))

pub returns : goal.returns
returns g c = λ bag is. (
  refl,
  stands_over (g.S.Scheme.judge c.args.scheme.now) c.args.policy.now (data_elements c.args.signed_data.now)
      bag c.args.named.now.place c.args.signer is c.in_ok-path.path c.in_ok-excuse.excuse
      (c.in_ok-excuse.ensures bag c.args.named.now.place is) (c.in_ok-path.ensures bag is.is_bag),
)
