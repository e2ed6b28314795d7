use Rattle.std.proofs.Common.{List, subst}
use Rattle.cms_content.specs.declared.ctl_attribute.CTLEntryAttribute.{CTLEntryAttribute}
use Rattle.cms_content.specs.declared.ctl_kind.CtlKind.TheVariants as kinds
use Rattle.cms_content.specs.Attributes.{IsOfKind}
use Rattle.cms_content.specs.First.{IsFirst}
use Rattle.cms_content.proofs.listing.attributes.begins_of.Goals as goal

pub returns-in-UnknownReservedPropId126 : goal.returns-in-UnknownReservedPropId126
returns-in-UnknownReservedPropId126 c = (
  c.in_ok-attribute.attribute.now,
  subst (λ (xs : List CTLEntryAttribute). IsFirst (IsOfKind kinds.UnknownReservedPropId126) xs c.in_ok-attribute.attribute.now)
      c.as_slice.ensures c.in_ok-attribute.ensures,
  cc (c.in-UnknownReservedPropId126.is, c.as_slice-in-UnknownReservedPropId126.ensures),
)
