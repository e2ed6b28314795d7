-- Distinguished names as lists of sets of attributes (RFC 5280 4.1.2.4).
use Rattle.std.specs.Prelude.{◌≡◌, ℕ, bytes_eq, if◌then◌else◌, Option, Some, None, List, [], ◌∷◌, ◌++◌, flat_map, filter_map}
use Rattle.std.specs.List.{slice_get}
use Rattle.asn1_types.specs.Values.{arcs_of}
use Rattle.name_types.specs.declared.attribute.AttributeTypeAndValue.{AttributeTypeAndValue}
use Rattle.name_types.specs.declared.directory_string.DirectoryString.{DirectoryString}
use Rattle.name_types.specs.declared.directory_string.DirectoryString.TheVariants as strings
use Rattle.name_types.specs.declared.attribute_value.AttributeValue.{AttributeValue}
use Rattle.name_types.specs.declared.attribute_value.AttributeValue.TheVariants as values
use Rattle.name_types.specs.declared.name_attr.NameAttr.TheVariants as attributes
use Rattle.name_types.specs.NameAttr.{attribute_arcs}

-- a text as a UTF8String
abbrev pub utf8_value : List ℕ → AttributeValue
utf8_value text = values.DirectoryString (strings.Utf8String text)

-- The later name has one more set at its end, with one attribute, which has these arcs as its type
-- and this value.
pub record IsExtended (arcs : List ℕ) (value : AttributeValue)
    (earlier later : List (List AttributeTypeAndValue)) : Type 0 where
  pub attribute : AttributeTypeAndValue
  pub appended : later ≡ earlier ++ (attribute ∷ []) ∷ []
  pub typed : arcs_of attribute.ty ≡ arcs
  pub valued : attribute.value ≡ value

-- the string of a value, if it is one
abbrev pub string_of : AttributeValue → Option DirectoryString
string_of (values.DirectoryString string) = Some string
string_of (values.Ia5String string) = None
string_of (values.Other other) = None

-- the string of a common name; any other kind of value has none
abbrev pub common_name_of : AttributeTypeAndValue → Option DirectoryString
common_name_of attribute =
    if bytes_eq (arcs_of attribute.ty) (attribute_arcs attributes.CommonName)
    then string_of attribute.value
    else None

-- the common names among the attributes of all sets, in their order
abbrev pub common_names : List (List AttributeTypeAndValue) → List DirectoryString
common_names sets = filter_map common_name_of (flat_map (λ members. members) sets)

-- the first of them
abbrev pub first_common_name : List (List AttributeTypeAndValue) → Option DirectoryString
first_common_name sets = slice_get (common_names sets) 0
