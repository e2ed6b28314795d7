use Rattle.cms_types.proofs.Viewed.{algorithms_bit}
use Rattle.cms_types.proofs.signed_data.view.SignedView.digest_algorithms.Goals as goal

pub kids_of-requires : goal.kids_of-requires
kids_of-requires c = algorithms_bit _ c.args.self.now.fits
