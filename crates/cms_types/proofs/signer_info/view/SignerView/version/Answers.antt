use Rattle.cms_types.proofs.Viewed.{signer_has_version}
use Rattle.cms_types.proofs.signer_info.view.SignerView.version.Goals as goal

pub unreachable-requires : goal.unreachable-requires
unreachable-requires c = signer_has_version _ c.args.self.now.fits c.in-None.ensures
