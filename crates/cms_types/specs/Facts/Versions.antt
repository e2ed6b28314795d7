-- Versions: different ones have different elements, each well formed.
use Rattle.std.proofs.Common.{◌≡◌, ℕ, [], refl, sym, ap, ◌∙◌, arith}
use Rattle.std.specs.Prelude.{◌==◌, if◌then◌else◌}
use Rattle.der_core.specs.Structure.{IsGrammar}
use Rattle.der_core.specs.Facts.Grammars.{printed}
use Rattle.cms_types.specs.CmsVersion.{cms_version, cms_version_number}
use Rattle.cms_types.specs.declared.version.CmsVersion.{CmsVersion}
use Rattle.cms_types.specs.declared.version.CmsVersion.TheVariants as named

abbrev version_of : ℕ → CmsVersion
version_of number =
    if number == 0 then named.V0
    else (if number == 1 then named.V1
    else (if number == 2 then named.V2
    else (if number == 3 then named.V3
    else (if number == 4 then named.V4
    else named.V5))))

of_number : (value : CmsVersion) → version_of (cms_version_number value) ≡ value
of_number named.V0 = refl
of_number named.V1 = refl
of_number named.V2 = refl
of_number named.V3 = refl
of_number named.V4 = refl
of_number named.V5 = refl

-- the number determines a version
pub same_version : (a b : CmsVersion) → cms_version_number a ≡ cms_version_number b → a ≡ b
same_version a b e = sym (of_number a) ∙ ap version_of e ∙ of_number b

pub versions_once : (a b : CmsVersion) → cms_version a ≡ cms_version b → a ≡ b
versions_once a b e = same_version a b cc

pub versions : IsGrammar (λ element value. element ≡ cms_version value) cms_version (λ value. [])
versions = printed cms_version versions_once (λ value. ((omega arith, omega arith, omega arith), refl))
