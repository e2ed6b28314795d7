use Rattle.cms_types.proofs.Viewed.{data_has_version}
use Rattle.cms_types.proofs.signed_data.view.SignedView.version.Goals as goal

pub unreachable-requires : goal.unreachable-requires
unreachable-requires c = data_has_version _ c.args.self.now.fits c.in-None.ensures
