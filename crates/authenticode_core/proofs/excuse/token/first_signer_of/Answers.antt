use Rattle.std.proofs.Common.{◌∙◌}
use Rattle.cms_types.specs.SignedView.{data_elements}
use Rattle.authenticode_core.proofs.FormSteps.{signers_are}
use Rattle.authenticode_core.proofs.Tokens.{no_signers, first_or_none}
use Rattle.authenticode_core.proofs.excuse.token.first_signer_of.Goals as goal

pub returns-in_err-first : goal.returns-in_err-first
returns-in_err-first c =
    let f = data_elements c.args.signed_data.now in
    rw c.from_residual.ensures (no_signers f (signers_are f c.signers_infos.result.is.0 c.signers_infos.ensures ∙ c.in_err-first.ensures))

pub returns : goal.returns
returns c =
    let f = data_elements c.args.signed_data.now in
    first_or_none c.read.result f c.in_ok-first.first.is.0 c.in_ok-first.ensures.0 (signers_are f c.signers_infos.result.is.0 c.signers_infos.ensures
    ∙ c.in_ok-first.ensures.1) c.read.ensures
