use Rattle.name_types.specs.declared.name_attr.NameAttr.{NameAttr}
use Rattle.name_types.specs.declared.name_attr.NameAttr.TheVariants.{CommonName, Surname, SerialNumber, CountryName, LocalityName, StateOrProvinceName}
use Rattle.name_types.specs.declared.name_attr.NameAttr.TheVariants.{StreetName, OrganizationName, OrganizationalUnitName, GivenName}
use Rattle.name_types.specs.declared.name_attr.TheConstants.NameAttr.{ALL}
use Rattle.name_types.proofs.name_attr.list_has_each_attribute_type.Goals as goal
use Rattle.std.proofs.Common.{refl, lit<}
use Rattle.std.specs.Prelude.{Contains}

has_each : (attr : NameAttr) → Contains ALL attr
has_each CommonName = (0, lit< tt, refl)
has_each Surname = (1, lit< tt, refl)
has_each SerialNumber = (2, lit< tt, refl)
has_each CountryName = (3, lit< tt, refl)
has_each LocalityName = (4, lit< tt, refl)
has_each StateOrProvinceName = (5, lit< tt, refl)
has_each StreetName = (6, lit< tt, refl)
has_each OrganizationName = (7, lit< tt, refl)
has_each OrganizationalUnitName = (8, lit< tt, refl)
has_each GivenName = (9, lit< tt, refl)

pub returns-clause-each : goal.returns-clause-each
returns-clause-each c = has_each
