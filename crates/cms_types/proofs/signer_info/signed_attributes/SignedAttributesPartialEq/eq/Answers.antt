use Rattle.std.proofs.Common.{refl}
use Rattle.cms_types.specs.SignedAttributesElement.{signed_attributes}
use Rattle.cms_types.specs.Facts.Signed.{all_signed_attributes}
use Rattle.cms_types.proofs.Equal.{by_kept}
use Rattle.cms_types.proofs.signer_info.signed_attributes.SignedAttributesPartialEq.eq.Goals as goal

pub returns-clause-same : goal.returns-clause-same
returns-clause-same c =
    by_kept signed_attributes all_signed_attributes c.args.self.now c.args.other.now c.args.self.now.element c.args.other.now.element _ refl refl
    c.eq.ensures.same
