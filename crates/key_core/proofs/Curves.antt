-- Curves and Curve25519 algorithms correspond to their OIDs.
use Rattle.std.proofs.Common.{◌≡◌, IsTrue, ℕ, List, refl, sym, ◌∙◌, ap, lit<, Some}
use Rattle.std.specs.Prelude.{Option, Contains, find}
use Rattle.std.specs.Str.{bytes_eq}
use Rattle.asn1_types.specs.KnownIdentifiers.{is_known}
use Rattle.key_core.specs.EcCurve.{curve_identifier}
use Rattle.key_core.specs.EdAlgorithm.{ed_identifier}
use Rattle.key_core.specs.declared.ec_curve.EcCurve.{EcCurve}
use Rattle.key_core.specs.declared.ec_curve.EcCurve.TheVariants.{NistP256, NistP384, NistP521}
use Rattle.key_core.specs.declared.ec_curve.TheConstants.EcCurve as curves
use Rattle.key_core.specs.declared.ed_algorithm.EdAlgorithm.{EdAlgorithm}
use Rattle.key_core.specs.declared.ed_algorithm.EdAlgorithm.TheVariants.{Ed25519, X25519}
use Rattle.key_core.specs.declared.ed_algorithm.TheConstants.EdAlgorithm as algorithms

-- the list of the curves has each
pub has_curve : (curve : EcCurve) → Contains curves.ALL curve
has_curve NistP256 = (0, lit< tt, refl)
has_curve NistP384 = (1, lit< tt, refl)
has_curve NistP521 = (2, lit< tt, refl)

-- the curve with an OID
abbrev named_curve : List ℕ → Option EcCurve
named_curve contents = find (λ curve. bytes_eq (curve_identifier curve) contents) curves.ALL

named_curve-identifier : (curve : EcCurve) → named_curve (curve_identifier curve) ≡ Some curve
named_curve-identifier NistP256 = refl
named_curve-identifier NistP384 = refl
named_curve-identifier NistP521 = refl

-- no two curves share an OID
pub same_curve : (a b : EcCurve) → curve_identifier a ≡ curve_identifier b → a ≡ b
same_curve a b e =
    let n = sym (named_curve-identifier a) ∙ ap named_curve e ∙ named_curve-identifier b in cc

-- the table of OIDs has each of them
pub is_known-curve : (curve : EcCurve) → IsTrue (is_known (curve_identifier curve))
is_known-curve NistP256 = refl
is_known-curve NistP384 = refl
is_known-curve NistP521 = refl

-- the list of the algorithms has each
pub has_algorithm : (algorithm : EdAlgorithm) → Contains algorithms.ALL algorithm
has_algorithm Ed25519 = (0, lit< tt, refl)
has_algorithm X25519 = (1, lit< tt, refl)

-- the algorithm with an OID
abbrev named_algorithm : List ℕ → Option EdAlgorithm
named_algorithm contents = find (λ algorithm. bytes_eq (ed_identifier algorithm) contents) algorithms.ALL

named_algorithm-identifier : (algorithm : EdAlgorithm) → named_algorithm (ed_identifier algorithm) ≡ Some algorithm
named_algorithm-identifier Ed25519 = refl
named_algorithm-identifier X25519 = refl

-- no two algorithms share an OID
pub same_algorithm : (a b : EdAlgorithm) → ed_identifier a ≡ ed_identifier b → a ≡ b
same_algorithm a b e =
    let n = sym (named_algorithm-identifier a) ∙ ap named_algorithm e ∙ named_algorithm-identifier b in cc

-- the table of OIDs has each of them
pub is_known-algorithm : (algorithm : EdAlgorithm) → IsTrue (is_known (ed_identifier algorithm))
is_known-algorithm Ed25519 = refl
is_known-algorithm X25519 = refl
