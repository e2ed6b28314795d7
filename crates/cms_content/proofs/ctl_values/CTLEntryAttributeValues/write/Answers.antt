use Rattle.std.proofs.Common.{ap}
use Rattle.der_core.specs.Elements.{octet_string}
use Rattle.cms_content.specs.HeldPurposesElement.{held_purposes}
use Rattle.cms_content.specs.CtlValues.{ctl_values}
use Rattle.cms_content.proofs.CtlHeld.{kept_element, set_written}
use Rattle.cms_content.proofs.ctl_values.CTLEntryAttributeValues.write.Goals as goal

pub returns-in-CertSubjectNameMd5HashPropId : goal.returns-in-CertSubjectNameMd5HashPropId
returns-in-CertSubjectNameMd5HashPropId c = set_written octet_string _ _ _ (ap ctl_values c.in-CertSubjectNameMd5HashPropId.is) c.write_list.ensures

pub returns-in-CertDisallowedFileTimePropId : goal.returns-in-CertDisallowedFileTimePropId
returns-in-CertDisallowedFileTimePropId c =
    set_written octet_string _ _ _ (ap ctl_values c.in-CertDisallowedFileTimePropId.is) c.write_list-in-CertDisallowedFileTimePropId.ensures

pub returns-in-UnknownReservedPropId126 : goal.returns-in-UnknownReservedPropId126
returns-in-UnknownReservedPropId126 c =
    set_written octet_string _ _ _ (ap ctl_values c.in-UnknownReservedPropId126.is) c.write_list-in-UnknownReservedPropId126.ensures

pub returns-in-UnknownReservedPropId127 : goal.returns-in-UnknownReservedPropId127
returns-in-UnknownReservedPropId127 c =
    set_written held_purposes _ _ _ (ap ctl_values c.in-UnknownReservedPropId127.is) c.write_list-in-UnknownReservedPropId127.ensures

pub returns-in-Other : goal.returns-in-Other
returns-in-Other c = set_written kept_element _ _ _ (ap ctl_values c.in-Other.is) c.write_list-in-Other.ensures
