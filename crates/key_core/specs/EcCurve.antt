-- The supported NIST curves (FIPS 186-4 D.1.2).
use Rattle.std.specs.Prelude.{ℕ, List, codes}
use Rattle.asn1_types.specs.declared.oids.TheConstants as octets
use Rattle.key_core.specs.declared.ec_curve.EcCurve.{EcCurve}
use Rattle.key_core.specs.declared.ec_curve.EcCurve.TheVariants.{NistP256, NistP384, NistP521}

-- the contents octets of the OID (RFC 5480 2.1.1.1)
abbrev pub curve_identifier : EcCurve → List ℕ
curve_identifier NistP256 = octets.SECP256R1.now
curve_identifier NistP384 = octets.SECP384R1.now
curve_identifier NistP521 = octets.SECP521R1.now

-- The size of a field element in octets: it has 256, 384 or 521 bits (SEC 1 2.3.5).
abbrev pub field_size : EcCurve → ℕ
field_size NistP256 = 32
field_size NistP384 = 48
field_size NistP521 = 66

-- how a curve prints
abbrev pub curve_text : EcCurve → List ℕ
curve_text NistP256 = codes "NIST-P256"
curve_text NistP384 = codes "NIST-P384"
curve_text NistP521 = codes "NIST-P521"
