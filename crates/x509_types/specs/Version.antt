-- Version ::= INTEGER { v1(0), v2(1), v3(2) } (RFC 5280 4.1, 4.1.2.1)
use Rattle.std.specs.Prelude.{ℕ, [], ◌∷◌}
use Rattle.asn1_types.specs.Elements.{integer_of}
use Rattle.der_core.specs.DerElement.{DerElement}
use Rattle.x509_types.specs.declared.certificate.version.Version.{Version}
use Rattle.x509_types.specs.declared.certificate.version.Version.TheVariants as versions

-- the number of a version
abbrev pub version_number : Version → ℕ
version_number versions.V1 = 0
version_number versions.V2 = 1
version_number versions.V3 = 2

-- its INTEGER, with the fewest contents octets (X.690 8.3.2)
abbrev pub version : Version → DerElement
version value = integer_of (version_number value ∷ [])
