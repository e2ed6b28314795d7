use Rattle.std.proofs.Common.{ap}
use Rattle.der_core.specs.BorrowedOption.{at_option}
use Rattle.cms_types.proofs.Viewed.{certificates_bit}
use Rattle.cms_types.proofs.signed_data.view.SignedView.members.Goals as goal

pub kids_of-requires : goal.kids_of-requires
kids_of-requires c = certificates_bit _ _ c.args.self.now.fits (ap at_option c.in-Some.is)
