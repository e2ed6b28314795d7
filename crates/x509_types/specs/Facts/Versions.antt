-- Versions: different ones have different elements, each well formed.
use Rattle.std.proofs.Common.{◌≡◌, ℕ, [], refl, sym, ap, ◌∙◌, arith}
use Rattle.std.specs.Prelude.{◌==◌, if◌then◌else◌}
use Rattle.der_core.specs.Structure.{IsGrammar}
use Rattle.der_core.specs.Facts.Grammars.{printed}
use Rattle.x509_types.specs.Version.{version, version_number}
use Rattle.x509_types.specs.declared.certificate.version.Version.{Version}
use Rattle.x509_types.specs.declared.certificate.version.Version.TheVariants as named

abbrev version_of : ℕ → Version
version_of number = if number == 0 then named.V1 else (if number == 1 then named.V2 else named.V3)

of_number : (value : Version) → version_of (version_number value) ≡ value
of_number named.V1 = refl
of_number named.V2 = refl
of_number named.V3 = refl

-- a version is determined by its number
pub same_version : (a b : Version) → version_number a ≡ version_number b → a ≡ b
same_version a b e = sym (of_number a) ∙ ap version_of e ∙ of_number b

pub versions_once : (a b : Version) → version a ≡ version b → a ≡ b
versions_once a b e = same_version a b cc

pub versions : IsGrammar (λ element value. element ≡ version value) version (λ value. [])
versions = printed version versions_once (λ value. ((omega arith, omega arith, omega arith), refl))
