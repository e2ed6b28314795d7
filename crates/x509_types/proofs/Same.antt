-- OPTIONAL fields are compared.
use Rattle.std.proofs.Common.{◌≡◌, ◌↔◌, IsTrue, Bool, ℕ, List, Option, ap}
use Rattle.std.specs.Prelude.{bytes_eq}
use Rattle.std.specs.Cmp.Lexicographic.{pointwise}
use Rattle.std.specs.Option.{option_eq}
use Rattle.std.proofs.lemmas.Slice.Eq.{bytes_eq-Decides}
use Rattle.der_core.specs.Equality.{same_octets}
use Rattle.der_core.specs.Facts.Equality.{by_test, octets_same, options_same, pointwise_same}
use Rattle.x509_types.specs.Version.{version}
use Rattle.x509_types.specs.Extension.{extension_octets}
use Rattle.x509_types.specs.Facts.Extensions.{extensions_by_octets}
use Rattle.x509_types.specs.Facts.Versions.{versions, versions_once}
use Rattle.x509_types.specs.declared.certificate.version.Version.{Version}
use Rattle.x509_types.specs.declared.extension.Extension.{Extension}

pub same_versions : (a b : Option Version) (t : Bool) → t ≡ option_eq (same_octets version) a b → IsTrue t ↔ (a ≡ b)
same_versions a b t test = by_test t _ (a ≡ b) test (options_same (same_octets version) (octets_same version versions_once versions.formed) a b)

pub same_ids : (a b : Option (List ℕ)) (t : Bool) → t ≡ option_eq bytes_eq a b → IsTrue t ↔ (a ≡ b)
same_ids a b t test = by_test t _ (a ≡ b) test (options_same bytes_eq (λ (x y : List ℕ). bytes_eq-Decides x y) a b)

abbrev pub equal : Extension → Extension → Bool
equal a b = bytes_eq (extension_octets a) (extension_octets b)

pub equal_same : (a b : Extension) → IsTrue (equal a b) ↔ (a ≡ b)
equal_same a b =
    let decides = bytes_eq-Decides (extension_octets a) (extension_octets b) in
    (λ w. extensions_by_octets a b (decides.0 w), λ e. decides.1 (ap (λ (v : Extension). extension_octets v) e))

pub same_extensions : (a b : Option (List Extension)) (t : Bool) → t ≡ option_eq (pointwise equal) a b → IsTrue t ↔ (a ≡ b)
same_extensions a b t test = by_test t _ (a ≡ b) test (options_same (pointwise equal) (pointwise_same equal equal_same) a b)
