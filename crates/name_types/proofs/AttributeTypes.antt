-- An attribute type and its OID determine each other.
use Rattle.std.proofs.Common.{◌≡◌, ◌↔◌, IsTrue, ℕ, ◌<◌, List, [], ◌∷◌, get_or, refl, sym, ap, ◌∙◌, lit<, arith, Some}
use Rattle.asn1_types.specs.Subidentifier.{subidentifier}
use Rattle.asn1_types.specs.ObjectIdentifier.{IsArcs, IsIdentifier, contents_of}
use Rattle.asn1_types.specs.Facts.OneIdentifier.{contents_once}
use Rattle.asn1_types.specs.KnownIdentifiers.{is_known}
use Rattle.name_types.specs.declared.name_attr.NameAttr.{NameAttr}
use Rattle.name_types.specs.declared.name_attr.NameAttr.TheVariants.{CommonName, Surname, SerialNumber, CountryName, LocalityName, StateOrProvinceName}
use Rattle.name_types.specs.declared.name_attr.NameAttr.TheVariants.{StreetName, OrganizationName, OrganizationalUnitName, GivenName}
use Rattle.name_types.specs.NameAttr.{attribute_arc, attribute_arcs, attribute_type, attribute_types}

-- the contents octets of the OIDs
pub contents_of-type : (attr : NameAttr) → 0x55 ∷ 0x04 ∷ attribute_arc attr ∷ [] ≡ contents_of (attribute_arcs attr)
unfolding subidentifier
contents_of-type CommonName = refl
contents_of-type Surname = refl
contents_of-type SerialNumber = refl
contents_of-type CountryName = refl
contents_of-type LocalityName = refl
contents_of-type StateOrProvinceName = refl
contents_of-type StreetName = refl
contents_of-type OrganizationName = refl
contents_of-type OrganizationalUnitName = refl
contents_of-type GivenName = refl

attribute_arc-below : (attr : NameAttr) → attribute_arc attr < 128
attribute_arc-below CommonName = lit< tt
attribute_arc-below Surname = lit< tt
attribute_arc-below SerialNumber = lit< tt
attribute_arc-below CountryName = lit< tt
attribute_arc-below LocalityName = lit< tt
attribute_arc-below StateOrProvinceName = lit< tt
attribute_arc-below StreetName = lit< tt
attribute_arc-below OrganizationName = lit< tt
attribute_arc-below OrganizationalUnitName = lit< tt
attribute_arc-below GivenName = lit< tt

-- they are the arcs of an OID
pub IsArcs-type : (attr : NameAttr) → IsArcs (attribute_arcs attr)
IsArcs-type attr =
    let below = attribute_arc-below attr in
    (record { first_low = omega arith; second_low = λ _. omega arith; bounded = omega arith }, (omega arith, (omega arith, tt)))

-- the contents octets of an OID determine its arcs
pub arcs_from_contents : (contents arcs : List ℕ) (identifier : IsIdentifier contents) → IsArcs arcs → contents ≡ contents_of arcs → identifier.arcs ≡ arcs
arcs_from_contents contents arcs identifier are spelled =
    contents_once identifier.arcs arcs identifier.are_arcs are (sym identifier.spelled ∙ spelled)

pub type_by_contents : (attr : NameAttr) (contents : List ℕ) (identifier : IsIdentifier contents)
    → (contents ≡ contents_of (attribute_arcs attr)) ↔ (identifier.arcs ≡ attribute_arcs attr)
type_by_contents attr contents identifier =
    (λ same. arcs_from_contents contents (attribute_arcs attr) identifier (IsArcs-type attr) same, λ same. identifier.spelled ∙ ap contents_of same)

-- the index of each among them
abbrev pub place : NameAttr → ℕ
place CommonName = 0
place Surname = 1
place SerialNumber = 2
place CountryName = 3
place LocalityName = 4
place StateOrProvinceName = 5
place StreetName = 6
place OrganizationName = 7
place OrganizationalUnitName = 8
place GivenName = 9

pub place-below : (attr : NameAttr) → place attr < 10
place-below CommonName = lit< tt
place-below Surname = lit< tt
place-below SerialNumber = lit< tt
place-below CountryName = lit< tt
place-below LocalityName = lit< tt
place-below StateOrProvinceName = lit< tt
place-below StreetName = lit< tt
place-below OrganizationName = lit< tt
place-below OrganizationalUnitName = lit< tt
place-below GivenName = lit< tt

pub get_or-place : (attr d : NameAttr) → get_or attribute_types (place attr) d ≡ attr
get_or-place CommonName d = refl
get_or-place Surname d = refl
get_or-place SerialNumber d = refl
get_or-place CountryName d = refl
get_or-place LocalityName d = refl
get_or-place StateOrProvinceName d = refl
get_or-place StreetName d = refl
get_or-place OrganizationName d = refl
get_or-place OrganizationalUnitName d = refl
get_or-place GivenName d = refl

-- no other type has the arcs of a type
pub attribute_type-arcs : (attr : NameAttr) → attribute_type (attribute_arcs attr) ≡ Some attr
attribute_type-arcs CommonName = refl
attribute_type-arcs Surname = refl
attribute_type-arcs SerialNumber = refl
attribute_type-arcs CountryName = refl
attribute_type-arcs LocalityName = refl
attribute_type-arcs StateOrProvinceName = refl
attribute_type-arcs StreetName = refl
attribute_type-arcs OrganizationName = refl
attribute_type-arcs OrganizationalUnitName = refl
attribute_type-arcs GivenName = refl

-- no two types have the same OID
pub types_by_contents : (a b : NameAttr) → contents_of (attribute_arcs a) ≡ contents_of (attribute_arcs b) → a ≡ b
types_by_contents a b e =
    let arcs = contents_once (attribute_arcs a) (attribute_arcs b) (IsArcs-type a) (IsArcs-type b) e in
    let n = sym (attribute_type-arcs a) ∙ ap attribute_type arcs ∙ attribute_type-arcs b in
    cc

-- the table of OIDs has each of them
pub is_known-type : (attr : NameAttr) → IsTrue (is_known (contents_of (attribute_arcs attr)))
unfolding subidentifier
is_known-type CommonName = refl
is_known-type Surname = refl
is_known-type SerialNumber = refl
is_known-type CountryName = refl
is_known-type LocalityName = refl
is_known-type StateOrProvinceName = refl
is_known-type StreetName = refl
is_known-type OrganizationName = refl
is_known-type OrganizationalUnitName = refl
is_known-type GivenName = refl
