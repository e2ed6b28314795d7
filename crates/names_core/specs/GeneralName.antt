-- General names (RFC 5280 4.2.1.6, without x400Address [3]), by their raw names.
use Rattle.std.specs.Prelude.{◌≡◌, ℕ, List}
use Rattle.der_core.specs.DerElement.{DerElement}
use Rattle.asn1_types.specs.Values.{ia5_contents}
use Rattle.asn1_types.specs.declared.ia5_string.Ia5String.{Ia5String}
use Rattle.name_types.specs.GeneralName.{general_name}
use Rattle.name_types.specs.declared.general_name.RawGeneralName.{RawGeneralName}
use Rattle.name_types.specs.declared.general_name.RawGeneralName.TheVariants as raw
use Rattle.names_core.specs.declared.general_name.GeneralName.{GeneralName}
use Rattle.names_core.specs.declared.general_name.GeneralName.TheVariants as forms

-- the raw name with the same form and the same value
abbrev pub raw_name : GeneralName → RawGeneralName
raw_name (forms.OtherName other) = raw.OtherName other
raw_name (forms.RFC822Name text) = raw.Rfc822Name text
raw_name (forms.DNSName text) = raw.DnsName text
raw_name (forms.DirectoryName made) = raw.DirectoryName made.name
raw_name (forms.EDIPartyName assigner party) =
    raw.EdiPartyName (record { name_assigner = assigner; party_name = party })
raw_name (forms.URI text) = raw.Uri text
raw_name (forms.IpAddress address) = raw.IpAddress address
raw_name (forms.RegisteredId id) = raw.RegisteredId id

-- the element that is written for it
abbrev pub named_element : GeneralName → DerElement
named_element name = general_name (raw_name name)

-- A name has this form, and its string is the text.
abbrev pub IsOfText : (Ia5String → GeneralName) → List ℕ → GeneralName → Type 0
IsOfText form text name = (string : Ia5String) × (name ≡ form string) × (ia5_contents string ≡ text)
