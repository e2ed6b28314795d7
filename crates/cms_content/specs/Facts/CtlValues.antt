-- Values of attributes of entries: different ones of a kind have different elements, each well
-- formed.
use Rattle.std.proofs.Common.{◌≡◌, ℕ, List, ap}
use Rattle.der_core.specs.DerElement.{DerElement}
use Rattle.der_core.specs.Elements.{octet_string}
use Rattle.der_core.specs.Encoding.{IsWellFormed}
use Rattle.der_core.specs.Owned.{KeptElement}
use Rattle.der_core.specs.Facts.Grammars.{list_once, set_formed}
use Rattle.der_core.specs.Facts.Owned.{same_kept}
use Rattle.der_core.specs.Facts.OctetStrings.{octet_strings}
use Rattle.cms_content.specs.HeldPurposesElement.{held_purposes}
use Rattle.cms_content.specs.CtlValues.{kind_of_ctl, ctl_values}
use Rattle.cms_content.specs.Facts.HeldPurposes.{helds_once, all_held_purposes}
use Rattle.cms_content.specs.declared.ctl_values.CTLEntryAttributeValues.{CTLEntryAttributeValues}
use Rattle.cms_content.specs.declared.ctl_values.CTLEntryAttributeValues.TheVariants as values

abbrev kept_element : KeptElement → DerElement
kept_element k = k.element

same_string : (a b : List ℕ) → octet_string a ≡ octet_string b → a ≡ b
same_string a b e = cc

pub ctl_values_once : (a b : CTLEntryAttributeValues) → kind_of_ctl a ≡ kind_of_ctl b → ctl_values a ≡ ctl_values b → a ≡ b
ctl_values_once (values.CertSubjectNameMd5HashPropId x) (values.CertSubjectNameMd5HashPropId y) kind e =
    ap values.CertSubjectNameMd5HashPropId (list_once 0x31 octet_string same_string x y e)
ctl_values_once (values.CertDisallowedFileTimePropId x) (values.CertDisallowedFileTimePropId y) kind e =
    ap values.CertDisallowedFileTimePropId (list_once 0x31 octet_string same_string x y e)
ctl_values_once (values.UnknownReservedPropId126 x) (values.UnknownReservedPropId126 y) kind e =
    ap values.UnknownReservedPropId126 (list_once 0x31 octet_string same_string x y e)
ctl_values_once (values.UnknownReservedPropId127 x) (values.UnknownReservedPropId127 y) kind e =
    ap values.UnknownReservedPropId127 (list_once 0x31 held_purposes helds_once x y e)
ctl_values_once (values.Other x) (values.Other y) kind e = ap values.Other (list_once 0x31 kept_element same_kept x y e)
ctl_values_once a b kind e = absurd cc

pub ctl_values_formed : (vs : CTLEntryAttributeValues) → IsWellFormed (ctl_values vs)
ctl_values_formed (values.CertSubjectNameMd5HashPropId x) = set_formed octet_string octet_strings.formed x
ctl_values_formed (values.CertDisallowedFileTimePropId x) = set_formed octet_string octet_strings.formed x
ctl_values_formed (values.UnknownReservedPropId126 x) = set_formed octet_string octet_strings.formed x
ctl_values_formed (values.UnknownReservedPropId127 x) = set_formed held_purposes all_held_purposes.formed x
ctl_values_formed (values.Other x) = set_formed kept_element (λ k. k.der.formed) x
