-- Entries of a trust list: different ones have different elements, each well formed.
use Rattle.std.proofs.Common.{◌≡◌, [], refl, arith}
use Rattle.der_core.specs.Each.{list_element}
use Rattle.der_core.specs.Elements.{octet_string}
use Rattle.der_core.specs.Structure.{IsGrammar}
use Rattle.der_core.specs.Facts.Grammars.{printed, list_once, each_formed}
use Rattle.der_core.specs.Facts.OctetStrings.{octet_strings}
use Rattle.cms_content.specs.CtlAttribute.{ctl_attribute}
use Rattle.cms_content.specs.CtlEntry.{ctl_entry}
use Rattle.cms_content.specs.Facts.CtlAttributes.{ctl_attributes}
use Rattle.cms_content.specs.declared.ctl_attribute.CTLEntryAttribute.{CTLEntryAttribute}
use Rattle.cms_content.specs.declared.ctl_entry.CTLEntry.{CTLEntry}

same_attribute : (a b : CTLEntryAttribute) → ctl_attribute a ≡ ctl_attribute b → a ≡ b
same_attribute a b e = ctl_attributes.once (ctl_attribute a) a b refl e

entries_once : (a b : CTLEntry) → ctl_entry a ≡ ctl_entry b → a ≡ b
entries_once a b e =
    let same_subject : octet_string a.subject_identifier ≡ octet_string b.subject_identifier = cc in
    let same_list : list_element 0x31 ctl_attribute a.attributes ≡ list_element 0x31 ctl_attribute b.attributes = cc in
    let subject = octet_strings.once (octet_string a.subject_identifier) a.subject_identifier b.subject_identifier refl same_subject in
    let attributes = list_once 0x31 ctl_attribute same_attribute a.attributes b.attributes same_list in
    λ i. record { subject_identifier = subject i; attributes = attributes i }

pub ctl_entries : IsGrammar (λ element entry. element ≡ ctl_entry entry) ctl_entry (λ entry. [])
ctl_entries =
    printed ctl_entry entries_once
    (λ entry. (
      (omega arith, omega arith, omega arith),
      refl,
      (
        octet_strings.formed entry.subject_identifier,
        (((omega arith, omega arith, omega arith), refl, each_formed ctl_attribute ctl_attributes.formed entry.attributes), tt),
      ),
    ))
