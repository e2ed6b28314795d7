use Rattle.cms_types.proofs.Viewed.{signers_bit}
use Rattle.cms_types.proofs.signed_data.view.SignedView.signers.Goals as goal

pub kids_of-requires : goal.kids_of-requires
kids_of-requires c = signers_bit _ c.args.self.now.fits
