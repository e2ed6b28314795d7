use Rattle.cms_types.proofs.Viewed.{signer_has_signature}
use Rattle.cms_types.proofs.signer_info.view.SignerView.signature.Goals as goal

pub unreachable-requires : goal.unreachable-requires
unreachable-requires c = signer_has_signature _ c.args.self.now.fits c.in-None.ensures
