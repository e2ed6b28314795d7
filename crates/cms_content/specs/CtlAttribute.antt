-- Attribute ::= SEQUENCE { type OBJECT IDENTIFIER, values SET OF ANY } (Microsoft, wincrypt.h:
-- CRYPT_ATTRIBUTE)
use Rattle.std.specs.Prelude.{[], ◌∷◌}
use Rattle.der_core.specs.DerElement.{DerElement}
use Rattle.der_core.specs.Elements.{sequence}
use Rattle.asn1_types.specs.Elements.{object_identifier}
use Rattle.cms_content.specs.CtlValues.{ctl_values}
use Rattle.cms_content.specs.declared.ctl_attribute.CTLEntryAttribute.{CTLEntryAttribute}

-- the element of an attribute
abbrev pub ctl_attribute : CTLEntryAttribute → DerElement
ctl_attribute a = sequence (object_identifier a.oid ∷ ctl_values a.value ∷ [])
