-- The attribute types that print as a descriptor, most of them of RFC 4514 3; the rest are a
-- profile.
use Rattle.name_types.specs.declared.name_attr.NameAttr.{NameAttr}
use Rattle.name_types.specs.declared.name_attr.NameAttr.TheVariants as attributes
use Rattle.std.specs.Prelude.{ℕ, Option, List, [], ◌∷◌, find, bytes_eq, codes}

-- the last arc of the OID, under id-at of X.520 (RFC 5280 A.1; RFC 4519 2.34 for the street)
abbrev pub attribute_arc : NameAttr → ℕ
attribute_arc attributes.CommonName = 3
attribute_arc attributes.Surname = 4
attribute_arc attributes.SerialNumber = 5
attribute_arc attributes.CountryName = 6
attribute_arc attributes.LocalityName = 7
attribute_arc attributes.StateOrProvinceName = 8
attribute_arc attributes.StreetName = 9
attribute_arc attributes.OrganizationName = 10
attribute_arc attributes.OrganizationalUnitName = 11
attribute_arc attributes.GivenName = 42

-- the OID
abbrev pub attribute_arcs : NameAttr → List ℕ
attribute_arcs attr = 2 ∷ 5 ∷ 4 ∷ attribute_arc attr ∷ []

-- the descriptor that is printed for the type
abbrev pub attribute_descriptor : NameAttr → List ℕ
attribute_descriptor attributes.CommonName = codes "CN"
attribute_descriptor attributes.Surname = codes "SN"
attribute_descriptor attributes.SerialNumber = codes "SERIALNUMBER"
attribute_descriptor attributes.CountryName = codes "C"
attribute_descriptor attributes.LocalityName = codes "L"
attribute_descriptor attributes.StateOrProvinceName = codes "ST"
attribute_descriptor attributes.StreetName = codes "STREET"
attribute_descriptor attributes.OrganizationName = codes "O"
attribute_descriptor attributes.OrganizationalUnitName = codes "OU"
attribute_descriptor attributes.GivenName = codes "GN"

-- every attribute type
abbrev pub attribute_types : List NameAttr
attribute_types =
    attributes.CommonName ∷ attributes.Surname ∷ attributes.SerialNumber ∷ attributes.CountryName ∷
    attributes.LocalityName ∷ attributes.StateOrProvinceName ∷ attributes.StreetName ∷
    attributes.OrganizationName ∷ attributes.OrganizationalUnitName ∷ attributes.GivenName ∷ []

-- the attribute type with these arcs
abbrev pub attribute_type : List ℕ → Option NameAttr
attribute_type arcs = find (λ attr. bytes_eq (attribute_arcs attr) arcs) attribute_types
