-- GeneralName ::= CHOICE of nine forms, each with a tag of its own (RFC 5280 4.2.1.6), without
-- x400Address [3]
use Rattle.std.specs.Prelude.{◌≡◌, List, [], ◌∷◌, ◌++◌, Option, Some, None}
use Rattle.der_core.specs.DerElement.{DerElement, Primitive, Constructed, row}
use Rattle.der_core.specs.Each.{list_element}
use Rattle.der_core.specs.Elements.{explicit, optional_explicit}
use Rattle.asn1_types.specs.Elements.{object_identifier}
use Rattle.asn1_types.specs.Values.{identifier_contents, ia5_contents}
use Rattle.name_types.specs.DirectoryString.{directory_string}
use Rattle.name_types.specs.Name.{name}
use Rattle.name_types.specs.declared.directory_string.DirectoryString.{DirectoryString}
use Rattle.name_types.specs.declared.other_name.OtherName.{OtherName}
use Rattle.name_types.specs.declared.edi_party_name.EdiPartyName.{EdiPartyName}
use Rattle.name_types.specs.declared.general_name.RawGeneralName.{RawGeneralName}
use Rattle.name_types.specs.declared.general_name.RawGeneralName.TheVariants as forms

-- OtherName ::= [0] SEQUENCE { type-id OBJECT IDENTIFIER, value [0] EXPLICIT ANY DEFINED BY type-id
-- }, by the elements of its fields
abbrev pub other_name_of : DerElement → DerElement → DerElement
other_name_of type_id value = Constructed 0xA0 (row (type_id ∷ explicit 0xA0 value ∷ []))

-- the element of such a name
abbrev pub other_name : OtherName → DerElement
other_name name = other_name_of (object_identifier name.type_id) name.value.element

-- EDIPartyName ::= [5] SEQUENCE { nameAssigner [0] DirectoryString OPTIONAL, partyName [1]
-- DirectoryString }, by the elements of its fields. The tag of a choice is explicit (X.680 31.2.7).
abbrev pub edi_party_name_of : Option DerElement → DerElement → DerElement
edi_party_name_of assigner party =
    Constructed 0xA5 (row (optional_explicit 0xA0 assigner ++ explicit 0xA1 party ∷ []))

-- the element of a string that may be absent
abbrev pub string_option : Option DirectoryString → Option DerElement
string_option None = None
string_option (Some string) = Some (directory_string string)

-- the element of such a name
abbrev pub edi_party_name : EdiPartyName → DerElement
edi_party_name name =
    edi_party_name_of (string_option name.name_assigner) (directory_string name.party_name)

-- The tags are [0] to [8] (RFC 5280 A.2). Those of a text, an address and an OID are implicit; that
-- of a Name, which is a choice, is explicit.
abbrev pub general_name : RawGeneralName → DerElement
general_name (forms.OtherName other) = other_name other
general_name (forms.Rfc822Name text) = Primitive 0x81 (ia5_contents text)
general_name (forms.DnsName text) = Primitive 0x82 (ia5_contents text)
general_name (forms.DirectoryName sets) = explicit 0xA4 (name sets)
general_name (forms.EdiPartyName party) = edi_party_name party
general_name (forms.Uri text) = Primitive 0x86 (ia5_contents text)
general_name (forms.IpAddress address) = Primitive 0x87 address
general_name (forms.RegisteredId id) = Primitive 0x88 (identifier_contents id)

-- GeneralNames ::= SEQUENCE SIZE (1..MAX) OF GeneralName; an empty one is accepted, too
abbrev pub general_names : List RawGeneralName → DerElement
general_names = list_element 0x30 general_name

-- An element encodes general names if it is the one that is written for them.
abbrev pub AreGeneralNames : DerElement → List RawGeneralName → Type 0
AreGeneralNames element names = element ≡ general_names names
