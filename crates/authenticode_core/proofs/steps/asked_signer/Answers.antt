use Rattle.cms_types.specs.SignedView.{data_elements}
use Rattle.authenticode_core.proofs.PolicyOrder.{signer_off, signer_on}
use Rattle.authenticode_core.proofs.steps.asked_signer.Goals as goal

pub returns-then-policy : goal.returns-then-policy
returns-then-policy g c =
    signer_on (g.S.Scheme.judge c.args.scheme.now) c.args.policy.now (data_elements c.args.signed_data.now)
    c.args.policy.now.signing _ c.expect_signer.result c.if-policy.true c.expect_signer.ensures

pub returns : goal.returns
returns g c =
    signer_off (g.S.Scheme.judge c.args.scheme.now) c.args.policy.now (data_elements c.args.signed_data.now)
    c.args.policy.now.signing _ c.new.result c.if-policy.false c.new.ensures
