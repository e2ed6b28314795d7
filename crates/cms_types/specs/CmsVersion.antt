-- CMSVersion ::= INTEGER { v0(0), v1(1), v2(2), v3(3), v4(4), v5(5) } (RFC 5652 10.2.5)
use Rattle.std.specs.Prelude.{ℕ, [], ◌∷◌}
use Rattle.asn1_types.specs.Elements.{integer_of}
use Rattle.der_core.specs.DerElement.{DerElement}
use Rattle.cms_types.specs.declared.version.CmsVersion.{CmsVersion}
use Rattle.cms_types.specs.declared.version.CmsVersion.TheVariants as versions

-- the number of a version
abbrev pub cms_version_number : CmsVersion → ℕ
cms_version_number versions.V0 = 0
cms_version_number versions.V1 = 1
cms_version_number versions.V2 = 2
cms_version_number versions.V3 = 3
cms_version_number versions.V4 = 4
cms_version_number versions.V5 = 5

-- the INTEGER of it, in its shortest contents (X.690 8.3.2)
abbrev pub cms_version : CmsVersion → DerElement
cms_version value = integer_of (cms_version_number value ∷ [])
