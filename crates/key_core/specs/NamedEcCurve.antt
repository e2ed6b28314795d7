-- Curves by the contents octets of their OIDs, supported or not (RFC 5480 2.1.1.1).
use Rattle.std.specs.Prelude.{◌≡◌, ◌≢◌, ℕ, List, ◌++◌, codes}
use Rattle.asn1_types.specs.ObjectIdentifier.{dotted}
use Rattle.asn1_types.specs.Values.{lent_arcs, lent_contents}
use Rattle.key_core.specs.EcCurve.{curve_identifier, curve_text}
use Rattle.key_core.specs.declared.ec_curve.EcCurve.{EcCurve}
use Rattle.key_core.specs.declared.named_ec_curve.NamedEcCurve.{NamedEcCurve}
use Rattle.key_core.specs.declared.named_ec_curve.NamedEcCurve.TheVariants as named

-- the contents octets of the OID
abbrev pub named_curve_identifier : NamedEcCurve → List ℕ
named_curve_identifier (named.Known curve) = curve_identifier curve
named_curve_identifier (named.Unsupported identifier) = lent_contents identifier

-- the supported curve with these contents octets, else the octets
abbrev pub IsNamedCurve : List ℕ → NamedEcCurve → Type 0
IsNamedCurve contents (named.Known curve) = curve_identifier curve ≡ contents
IsNamedCurve contents (named.Unsupported identifier) =
    (lent_contents identifier ≡ contents) × ((curve : EcCurve) → curve_identifier curve ≢ contents)

-- how a curve prints
abbrev pub named_curve_text : NamedEcCurve → List ℕ
named_curve_text (named.Known curve) = curve_text curve
named_curve_text (named.Unsupported identifier) =
    codes "Unsupported(OID: " ++ dotted (lent_arcs identifier) ++ codes ")"
