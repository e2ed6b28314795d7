-- TrustedSubject ::= SEQUENCE { subjectIdentifier OCTET STRING, subjectAttributes SET OF Attribute
-- } (Microsoft, wincrypt.h: CTL_ENTRY)
use Rattle.std.specs.Prelude.{[], ◌∷◌}
use Rattle.der_core.specs.DerElement.{DerElement}
use Rattle.der_core.specs.Each.{list_element}
use Rattle.der_core.specs.Elements.{sequence, octet_string}
use Rattle.cms_content.specs.CtlAttribute.{ctl_attribute}
use Rattle.cms_content.specs.declared.ctl_entry.CTLEntry.{CTLEntry}

-- the element of an entry
abbrev pub ctl_entry : CTLEntry → DerElement
ctl_entry entry =
    sequence
    (octet_string entry.subject_identifier ∷ list_element 0x31 ctl_attribute entry.attributes ∷ [])
