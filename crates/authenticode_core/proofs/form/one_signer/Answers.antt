use Rattle.cms_types.specs.SignedView.{data_elements}
use Rattle.authenticode_core.proofs.FormSteps.{no_other_signer, the_signer}
use Rattle.authenticode_core.proofs.form.one_signer.Goals as goal

pub unreachable-requires : goal.unreachable-requires
unreachable-requires c =
    no_other_signer (data_elements c.args.signed_data.now) c.signers_infos.result.is.0 c.in-Ok.only.is.0 c.requires c.signers_infos.ensures c.in-Ok.ensures
    c.in-None.ensures

pub returns : goal.returns
returns c =
    the_signer (data_elements c.args.signed_data.now) c.signers_infos.result.is.0 c.in-Ok.only.is.0 c.in-Some.signer c.signers_infos.ensures c.in-Ok.ensures
    c.in-Some.ensures
