use Rattle.std.proofs.Common.{List, subst}
use Rattle.cms_content.specs.declared.ctl_attribute.CTLEntryAttribute.{CTLEntryAttribute}
use Rattle.cms_content.specs.declared.ctl_kind.CtlKind.TheVariants as kinds
use Rattle.cms_content.specs.Attributes.{IsOfKind}
use Rattle.cms_content.specs.First.{IsFirst}
use Rattle.cms_content.proofs.listing.attributes.ends_of.Goals as goal

pub returns-in-CertDisallowedFileTimePropId : goal.returns-in-CertDisallowedFileTimePropId
returns-in-CertDisallowedFileTimePropId c = (
  c.in_ok-attribute.attribute.now,
  subst (λ (xs : List CTLEntryAttribute). IsFirst (IsOfKind kinds.CertDisallowedFileTimePropId) xs c.in_ok-attribute.attribute.now)
      c.as_slice.ensures c.in_ok-attribute.ensures,
  cc (c.in-CertDisallowedFileTimePropId.is, c.as_slice-in-CertDisallowedFileTimePropId.ensures),
)
