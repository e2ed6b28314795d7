-- Elements that aren't a string of a known type.
use Rattle.std.specs.Prelude.{◌≢◌}
use Rattle.der_core.specs.DerElement.{DerElement}
use Rattle.asn1_types.specs.declared.ia5_string.Ia5String.{Ia5String}
use Rattle.asn1_types.specs.Elements.{ia5_string}
use Rattle.name_types.specs.DirectoryString.{directory_string}
use Rattle.name_types.specs.declared.directory_string.DirectoryString.{DirectoryString}

-- neither a DirectoryString nor an IA5String, such as one with an octet above 127
pub record IsOtherValue (element : DerElement) : Type 0 where
  pub no_directory_string : (string : DirectoryString) → element ≢ directory_string string
  pub no_ia5_string : (string : Ia5String) → element ≢ ia5_string string
