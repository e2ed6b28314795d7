-- Results for EC keys that were read.
use Rattle.std.proofs.Common.{◌≡◌, ℕ, List, Option, Some, Result, Ok, Err, inr, sym, ap, ◌∙◌, subst}
use Rattle.std.specs.Prelude.{MatchResult}
use Rattle.der_core.specs.DerElement.{DerElement, Primitive}
use Rattle.der_core.specs.BorrowedOption.{kept_option}
use Rattle.der_core.specs.Structure.{IsWithin}
use Rattle.asn1_types.specs.Elements.{object_identifier}
use Rattle.asn1_types.specs.Values.{identifier_contents}
use Rattle.asn1_types.specs.declared.oid.ObjectIdentifier.{ObjectIdentifier}
use Rattle.key_types.specs.declared.ec_private_key.ECPrivateKey.{ECPrivateKey}
use Rattle.key_core.specs.CurveKeys.{IsECPrivateKey, IsCurveKey, RefusesCurveKey, IsSec1Key, IsSec1KeyOnKnown, RefusesSec1, RefusesOwnCurve, RefusesKnownCurve}
use Rattle.key_core.specs.DerivedKeys.{Derivation, IsEcRefusal, RefusesPoint}
use Rattle.key_core.specs.EcCurve.{curve_identifier}
use Rattle.key_core.specs.Pkcs8.{IsKeptKey, RefusesEcInfo, RefusesKept, IsPkcs8Key, RefusesPkcs8}
use Rattle.key_core.specs.PrivateKeyInfo.{IsPrivateKeyInfo}
use Rattle.key_core.specs.declared.ec_curve.EcCurve.{EcCurve}
use Rattle.key_core.specs.declared.error.KeyContext.{KeyContext}
use Rattle.key_core.specs.declared.error.KeyError.{KeyError}
use Rattle.key_core.specs.declared.error.KeyError.TheVariants as errors
use Rattle.key_core.specs.declared.private_key.PrivateKey.{PrivateKey}
use Rattle.key_core.specs.declared.private_key_info.PrivateKeyInfo.{PrivateKeyInfo}
use Rattle.key_core.specs.declared.private_key_value.PrivateKeyValue.{PrivateKeyValue}
use Rattle.key_core.specs.declared.private_key_value.PrivateKeyValue.TheVariants as values
use Rattle.key_core.proofs.OwnedKeys.{one_curve}

-- a refusal of a curve for one reason is one for a reason that follows from it
pub ec_refusal : (P Q : KeyContext → Type 0) → ((context : KeyContext) → P context → Q context) → (e : KeyError) → IsEcRefusal P e → IsEcRefusal Q e
ec_refusal P Q f (errors.Asn1Serialization x s) r = r
ec_refusal P Q f (errors.Asn1Deserialization x s) r = r
ec_refusal P Q f (errors.Rsa context) r = r
ec_refusal P Q f (errors.EC context) r = f context r
ec_refusal P Q f (errors.ED context) r = r
ec_refusal P Q f (errors.UnsupportedAlgorithm kind) r = r
ec_refusal P Q f errors.Memory r = r

known_refused : (derives : Derivation) (curve : EcCurve) (oid : ObjectIdentifier) (read : ECPrivateKey) → identifier_contents oid ≡ curve_identifier curve
    → (context : KeyContext) → RefusesCurveKey derives oid read context → RefusesKnownCurve derives curve read context
known_refused derives curve oid read named context r =
    subst (λ (k : Option EcCurve). RefusesPoint derives k read.private_key read.public_key context)
    (one_curve (identifier_contents oid) r.0 (Some curve) r.1 (sym named)) r.2

-- a result on the curve with an OID is one on the supported curve that it names
pub on_known_curve : (derives : Derivation) (curve : EcCurve) (oid : ObjectIdentifier) (read : ECPrivateKey) → identifier_contents oid ≡ curve_identifier curve
    → (r : Result PrivateKey KeyError) → MatchResult r (IsCurveKey derives oid read) (IsEcRefusal (RefusesCurveKey derives oid read))
    → MatchResult r (λ key. (o : ObjectIdentifier) × (identifier_contents o ≡ curve_identifier curve) × IsCurveKey derives o read key)
    (IsEcRefusal (RefusesKnownCurve derives curve read))
on_known_curve derives curve oid read named (Ok key) is = (oid, named, is)
on_known_curve derives curve oid read named (Err e) r = ec_refusal
    (RefusesCurveKey derives oid read) (RefusesKnownCurve derives curve read)
    (known_refused derives curve oid read named) e r

-- a result on the curve that a key names
pub on_own_curve : (derives : Derivation) (curve : ObjectIdentifier) (read : ECPrivateKey) → read.parameters ≡ Some curve
    → (r : Result PrivateKey KeyError) → MatchResult r (IsCurveKey derives curve read) (IsEcRefusal (RefusesCurveKey derives curve read))
    → MatchResult r (λ key. (o : ObjectIdentifier) × (read.parameters ≡ Some o) × IsCurveKey derives o read key)
    (IsEcRefusal (RefusesOwnCurve derives read.parameters read))
on_own_curve derives curve read stands (Ok key) is = (curve, stands, is)
on_own_curve derives curve read stands (Err e) r =
    subst (λ (o : Option ObjectIdentifier). IsEcRefusal (RefusesOwnCurve derives o read) e) (sym stands) r

-- a result on the curve that parameters name
pub on_parameters : (derives : Derivation) (parameters : Option DerElement) (octets : List ℕ) (curve : ObjectIdentifier) (read : ECPrivateKey)
    → ((o : ObjectIdentifier) × (parameters ≡ Some (object_identifier o)) × (identifier_contents o ≡ octets)) → identifier_contents curve ≡ octets
    → (r : Result PrivateKey KeyError) → MatchResult r (IsCurveKey derives curve read) (IsEcRefusal (RefusesCurveKey derives curve read))
    → MatchResult r (λ key. (o : ObjectIdentifier) × (parameters ≡ Some
    (object_identifier o)) × IsCurveKey derives o read key) (IsEcRefusal (RefusesEcInfo derives
    read parameters))
on_parameters derives parameters octets curve read found is (Ok key) made =
    (curve, found.1 ∙ ap (λ (o : List ℕ). Some (Primitive 0x06 o)) (found.2 ∙ sym is), made)
on_parameters derives parameters octets curve read found is (Err e) refused =
    let names : parameters ≡ Some (object_identifier curve) = found.1 ∙ ap (λ (o : List ℕ). Some (Primitive 0x06 o)) (found.2 ∙ sym is) in
    ec_refusal (RefusesCurveKey derives curve read) (RefusesEcInfo derives read parameters) (λ context r. inr (curve, names, r)) e refused

as_ec : (derives : Derivation) (info : PrivateKeyInfo) (read : ECPrivateKey)
    → (r : Result PrivateKey KeyError)
    → MatchResult r (λ key. (o : ObjectIdentifier) × (kept_option info.private_key_algorithm.parameters ≡ Some (object_identifier o))
    × IsCurveKey derives o read key) (IsEcRefusal (RefusesEcInfo derives read (kept_option info.private_key_algorithm.parameters)))
    → MatchResult r (IsKeptKey derives (values.Ec read) info) (RefusesKept derives (values.Ec read) info)
as_ec derives info read (Ok key) made = record { curve = made.0; parameters = made.1; is = made.2 }
as_ec derives info read (Err e) refused = refused

-- a container with an EC key
pub kept_as_ec : (derives : Derivation) (info : PrivateKeyInfo) (read : ECPrivateKey) → info.private_key ≡ values.Ec read
    → (r : Result PrivateKey KeyError)
    → MatchResult r (λ key. (o : ObjectIdentifier) × (kept_option info.private_key_algorithm.parameters ≡ Some (object_identifier o))
    × IsCurveKey derives o read key) (IsEcRefusal (RefusesEcInfo derives read (kept_option info.private_key_algorithm.parameters)))
    → MatchResult r (IsKeptKey derives info.private_key info) (RefusesKept derives info.private_key info)
kept_as_ec derives info read is r answer =
    subst (λ (v : PrivateKeyValue). MatchResult r (IsKeptKey derives v info) (RefusesKept derives v info)) (sym is) (as_ec derives info read r answer)

-- ---- results for octets

pub key_is_not_refused : (key : ECPrivateKey) (e : KeyError) → ◌≡◌ {A = Result ECPrivateKey KeyError} (Ok key) (Err e) → ⊥
key_is_not_refused key e same = cc

pub error_is : (x y : KeyError) → ◌≡◌ {A = Result ECPrivateKey KeyError} (Err x) (Err y) → x ≡ y
error_is x y e = cc

refused_sec1 : (Refuses : ECPrivateKey → KeyContext → Type 0) (octets : List ℕ) (read : ECPrivateKey) → IsWithin IsECPrivateKey octets read
    → (e : KeyError) → IsEcRefusal (Refuses read) e → RefusesSec1 Refuses octets e
refused_sec1 Refuses octets read within (errors.Asn1Serialization x s) r = absurd r
refused_sec1 Refuses octets read within (errors.Asn1Deserialization x s) r = absurd r
refused_sec1 Refuses octets read within (errors.Rsa context) r = absurd r
refused_sec1 Refuses octets read within (errors.EC context) r = (read, within, r)
refused_sec1 Refuses octets read within (errors.ED context) r = absurd r
refused_sec1 Refuses octets read within (errors.UnsupportedAlgorithm kind) r = absurd r
refused_sec1 Refuses octets read within errors.Memory r = tt

pub sec1_own : (derives : Derivation) (octets : List ℕ) (read : ECPrivateKey) → IsWithin IsECPrivateKey octets read
    → (r : Result PrivateKey KeyError)
    → MatchResult r (λ key. (curve : ObjectIdentifier) × (read.parameters ≡ Some curve) × IsCurveKey derives curve read key)
    (IsEcRefusal (RefusesOwnCurve derives read.parameters read))
    → MatchResult r (IsSec1Key derives octets) (RefusesSec1 (λ x. RefusesOwnCurve derives x.parameters x) octets)
sec1_own derives octets read within (Ok key) made = record { curve = made.0; read = read; within = within; present = made.1; is = made.2 }
sec1_own derives octets read within (Err e) refused = refused_sec1 (λ x. RefusesOwnCurve derives x.parameters x) octets read within e refused

pub sec1_known : (derives : Derivation) (curve : EcCurve) (octets : List ℕ) (read : ECPrivateKey) → IsWithin IsECPrivateKey octets read
    → (r : Result PrivateKey KeyError)
    → MatchResult r (λ key. (o : ObjectIdentifier) × (identifier_contents o ≡ curve_identifier curve) × IsCurveKey derives o read key)
    (IsEcRefusal (RefusesKnownCurve derives curve read))
    → MatchResult r (IsSec1KeyOnKnown derives curve octets) (RefusesSec1 (RefusesKnownCurve derives curve) octets)
sec1_known derives curve octets read within (Ok key) made =
    record { oid = made.0; named = made.1; is = record { read = read; within = within; is = made.2 } }
sec1_known derives curve octets read within (Err e) refused = refused_sec1 (RefusesKnownCurve derives curve) octets read within e refused

pub pkcs8_kept : (derives : Derivation) (octets : List ℕ) (info : PrivateKeyInfo) → IsWithin IsPrivateKeyInfo octets info
    → (r : Result PrivateKey KeyError) → MatchResult r (IsKeptKey derives info.private_key info) (RefusesKept derives info.private_key info)
    → MatchResult r (IsPkcs8Key derives octets) (RefusesPkcs8 derives octets)
pkcs8_kept derives octets info within (Ok key) kept = record { info = info; within = within; kept = kept }
pkcs8_kept derives octets info within (Err e) refused = inr (info, within, refused)
