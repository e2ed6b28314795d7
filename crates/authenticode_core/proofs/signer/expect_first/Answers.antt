use Rattle.cms_types.specs.SignedView.{data_elements}
use Rattle.authenticode_core.proofs.SignerOrder.{lacks_signer}
use Rattle.authenticode_core.proofs.signer.expect_first.Goals as goal

pub returns-in-None : goal.returns-in-None
returns-in-None c = lacks_signer (data_elements c.args.signed_data.now) c.requires c.in-None.ensures
