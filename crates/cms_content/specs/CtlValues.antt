-- The values of attributes of trust list entries, a SET OF: SET { ANY } (Microsoft, wincrypt.h); of
-- the four known kinds each value is an OCTET STRING, that of extended key usages contains a
-- SEQUENCE OF OBJECT IDENTIFIER
use Rattle.std.specs.Prelude.{◌≡◌}
use Rattle.der_core.specs.DerElement.{DerElement}
use Rattle.der_core.specs.Each.{list_element}
use Rattle.der_core.specs.Elements.{octet_string}
use Rattle.der_core.specs.Owned.{KeptElement}
use Rattle.cms_content.specs.HeldPurposesElement.{held_purposes}
use Rattle.cms_content.specs.declared.ctl_kind.CtlKind.{CtlKind}
use Rattle.cms_content.specs.declared.ctl_kind.CtlKind.TheVariants as kinds
use Rattle.cms_content.specs.declared.ctl_values.CTLEntryAttributeValues.{CTLEntryAttributeValues}
use Rattle.cms_content.specs.declared.ctl_values.CTLEntryAttributeValues.TheVariants as values

-- the kind of attributes that have such values
abbrev pub kind_of_ctl : CTLEntryAttributeValues → CtlKind
kind_of_ctl (values.CertSubjectNameMd5HashPropId digests) = kinds.CertSubjectNameMd5HashPropId
kind_of_ctl (values.CertDisallowedFileTimePropId times) = kinds.CertDisallowedFileTimePropId
kind_of_ctl (values.UnknownReservedPropId126 times) = kinds.UnknownReservedPropId126
kind_of_ctl (values.UnknownReservedPropId127 purposes) = kinds.UnknownReservedPropId127
kind_of_ctl (values.Other kept) = kinds.Other

-- the element of values: the SET OF their elements, in the order found
abbrev pub ctl_values : CTLEntryAttributeValues → DerElement
ctl_values (values.CertSubjectNameMd5HashPropId digests) = list_element 0x31 octet_string digests
ctl_values (values.CertDisallowedFileTimePropId times) = list_element 0x31 octet_string times
ctl_values (values.UnknownReservedPropId126 times) = list_element 0x31 octet_string times
ctl_values (values.UnknownReservedPropId127 purposes) = list_element 0x31 held_purposes purposes
ctl_values (values.Other kept) = list_element 0x31 (λ (k : KeptElement). k.element) kept

-- The element is that of the values, which are of the kind.
abbrev pub AreCtlValuesOf : CtlKind → DerElement → CTLEntryAttributeValues → Type 0
AreCtlValuesOf kind element vs = (kind_of_ctl vs ≡ kind) × (element ≡ ctl_values vs)
