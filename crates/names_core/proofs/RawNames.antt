-- General names and their raw names are one to one.
use Rattle.name_types.specs.Facts.GeneralNames.{forms_once}
use Rattle.name_types.specs.declared.general_name.RawGeneralName.{RawGeneralName}
use Rattle.name_types.specs.declared.general_name.RawGeneralName.TheVariants as raw
use Rattle.std.proofs.Common.{◌≡◌, refl, sym, ap, ◌∙◌}
use Rattle.names_core.specs.GeneralName.{raw_name, named_element}
use Rattle.names_core.specs.declared.general_name.GeneralName.{GeneralName}
use Rattle.names_core.specs.declared.general_name.GeneralName.TheVariants as forms

-- the name of a raw one
abbrev pub name_of : RawGeneralName → GeneralName
name_of (raw.OtherName other) = forms.OtherName other
name_of (raw.Rfc822Name text) = forms.RFC822Name text
name_of (raw.DnsName text) = forms.DNSName text
name_of (raw.DirectoryName sets) = forms.DirectoryName (record { name = sets })
name_of (raw.EdiPartyName party) = forms.EDIPartyName party.name_assigner party.party_name
name_of (raw.Uri text) = forms.URI text
name_of (raw.IpAddress address) = forms.IpAddress address
name_of (raw.RegisteredId id) = forms.RegisteredId id

pub stands_for : (from : RawGeneralName) → from ≡ raw_name (name_of from)
stands_for (raw.OtherName other) = refl
stands_for (raw.Rfc822Name text) = refl
stands_for (raw.DnsName text) = refl
stands_for (raw.DirectoryName sets) = refl
stands_for (raw.EdiPartyName party) = refl
stands_for (raw.Uri text) = refl
stands_for (raw.IpAddress address) = refl
stands_for (raw.RegisteredId id) = refl

turned_back : (name : GeneralName) → name_of (raw_name name) ≡ name
turned_back (forms.OtherName other) = refl
turned_back (forms.RFC822Name text) = refl
turned_back (forms.DNSName text) = refl
turned_back (forms.DirectoryName made) = refl
turned_back (forms.EDIPartyName assigner party) = refl
turned_back (forms.URI text) = refl
turned_back (forms.IpAddress address) = refl
turned_back (forms.RegisteredId id) = refl

pub raw_once : (a b : GeneralName) → raw_name a ≡ raw_name b → a ≡ b
raw_once a b e = sym (turned_back a) ∙ ap name_of e ∙ turned_back b

-- different names have different elements
pub named_once : (a b : GeneralName) → named_element a ≡ named_element b → a ≡ b
named_once a b e = raw_once a b (forms_once (raw_name a) (raw_name b) e)
