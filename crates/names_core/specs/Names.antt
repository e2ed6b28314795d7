-- What contracts see of a distinguished name.
use Rattle.name_types.specs.declared.attribute.AttributeTypeAndValue.{AttributeTypeAndValue}
use Rattle.std.specs.Prelude.{List}
use Rattle.names_core.specs.declared.name.DirectoryName.{DirectoryName}

-- The sets of attributes, the first of the name first (RFC 5280 4.1.2.4).
abbrev pub sets_of : DirectoryName → List (List AttributeTypeAndValue)
sets_of made = made.name

-- The name with these sets of attributes.
abbrev pub name_of_sets : List (List AttributeTypeAndValue) → DirectoryName
name_of_sets sets = record { name = sets }
