-- Lists of general names (RFC 5280 4.2.1.6): the first name of a form.
use Rattle.std.specs.Prelude.{Option, Some, None, List, filter_map}
use Rattle.std.specs.List.{slice_get}
use Rattle.asn1_types.specs.declared.ia5_string.Ia5String.{Ia5String}
use Rattle.name_types.specs.declared.attribute.AttributeTypeAndValue.{AttributeTypeAndValue}
use Rattle.name_types.specs.declared.general_name.RawGeneralName.{RawGeneralName}
use Rattle.name_types.specs.declared.general_name.RawGeneralName.TheVariants as raw

-- the text of a DNS name; a name of another form has none
abbrev pub dns_name_of : RawGeneralName → Option Ia5String
dns_name_of (raw.OtherName other) = None
dns_name_of (raw.Rfc822Name text) = None
dns_name_of (raw.DnsName text) = Some text
dns_name_of (raw.DirectoryName sets) = None
dns_name_of (raw.EdiPartyName party) = None
dns_name_of (raw.Uri text) = None
dns_name_of (raw.IpAddress address) = None
dns_name_of (raw.RegisteredId id) = None

-- the sets of a directory name; a name of another form has none
abbrev pub directory_name_of : RawGeneralName → Option (List (List AttributeTypeAndValue))
directory_name_of (raw.OtherName other) = None
directory_name_of (raw.Rfc822Name text) = None
directory_name_of (raw.DnsName text) = None
directory_name_of (raw.DirectoryName sets) = Some sets
directory_name_of (raw.EdiPartyName party) = None
directory_name_of (raw.Uri text) = None
directory_name_of (raw.IpAddress address) = None
directory_name_of (raw.RegisteredId id) = None

-- the first DNS name of a list
abbrev pub first_dns_name : List RawGeneralName → Option Ia5String
first_dns_name names = slice_get (filter_map dns_name_of names) 0

-- the first directory name of a list
abbrev pub first_directory_name : List RawGeneralName → Option (List (List AttributeTypeAndValue))
first_directory_name names = slice_get (filter_map directory_name_of names) 0
