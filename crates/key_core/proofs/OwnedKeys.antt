-- A key stored for a container is the key of that container.
use Rattle.std.proofs.Common.{◌≡◌, ℕ, List, Option, Some, None, refl, sym, subst, ap, ◌∙◌}
use Rattle.std.specs.Option.{option_map}
use Rattle.der_core.specs.DerElement.{Primitive}
use Rattle.der_core.specs.BorrowedOption.{kept_option}
use Rattle.asn1_types.specs.Elements.{object_identifier}
use Rattle.asn1_types.specs.Facts.Elements.{identifiers}
use Rattle.asn1_types.specs.Values.{identifier_contents}
use Rattle.asn1_types.specs.declared.bit_string.BitString.{BitString}
use Rattle.asn1_types.specs.declared.oid.ObjectIdentifier.{ObjectIdentifier}
use Rattle.sig_core.specs.declared.algorithm.SchemeKind.{SchemeKind}
use Rattle.key_types.specs.AlgorithmIdentifier.{algorithm_identifier, algorithm_of}
use Rattle.key_types.specs.Facts.Algorithms.{algorithms}
use Rattle.key_types.specs.declared.algorithm.AlgorithmIdentifier.{AlgorithmIdentifier}
use Rattle.key_types.specs.declared.ec_private_key.ECPrivateKey.{ECPrivateKey}
use Rattle.key_core.specs.CurveKeys.{anew, IsEcContainer, IsCurveKey}
use Rattle.key_core.specs.DerivedKeys.{Derivation, IsCurveOf, IsEdOf, IsDerived, IsPointOf, IsEdKeyOf, whole_bits, curve_kind, ed_kind}
use Rattle.key_core.specs.EcCurve.{field_size}
use Rattle.key_core.specs.Pkcs8.{IsKeptEd, IsKeptEc, IsKeptKey}
use Rattle.key_core.specs.Facts.PrivateKeyInfos.{same_info, bits_once}
use Rattle.key_core.specs.Facts.PrivateKeys.{same_key}
use Rattle.key_core.specs.declared.ec_curve.EcCurve.{EcCurve}
use Rattle.key_core.specs.declared.ed_algorithm.EdAlgorithm.{EdAlgorithm}
use Rattle.key_core.specs.declared.private_key.PrivateKey.{PrivateKey}
use Rattle.key_core.specs.declared.private_key_info.PrivateKeyInfo.{PrivateKeyInfo}
use Rattle.key_core.specs.declared.private_key_value.PrivateKeyValue.{PrivateKeyValue}
use Rattle.key_core.specs.declared.private_key_value.PrivateKeyValue.TheVariants as values
use Rattle.key_core.proofs.Curves.{same_curve, same_algorithm}

-- ---- one supported curve, one supported algorithm

pub one_curve : (oid : List ℕ) (a b : Option EcCurve) → IsCurveOf oid a → IsCurveOf oid b → a ≡ b
one_curve oid None None p q = refl
one_curve oid None (Some c) p q = absurd (p c q)
one_curve oid (Some c) None p q = absurd (q c p)
one_curve oid (Some c) (Some d) p q = ap Some (same_curve c d (p ∙ sym q))

pub one_algorithm : (oid : List ℕ) (a b : Option EdAlgorithm) → IsEdOf oid a → IsEdOf oid b → a ≡ b
one_algorithm oid None None p q = refl
one_algorithm oid None (Some c) p q = absurd (p c q)
one_algorithm oid (Some c) None p q = absurd (q c p)
one_algorithm oid (Some c) (Some d) p q = ap Some (same_algorithm c d (p ∙ sym q))

-- ---- one public key

one_derived : (derives : Derivation) (kind : SchemeKind) (size : ℕ) (secret : List ℕ)
    (a b : Option BitString) → IsDerived derives kind size secret a
    → IsDerived derives kind size secret b → a ≡ b
one_derived derives kind size secret a b p q =
    let keys : Some p.key ≡ Some q.key = sym p.derived ∙ q.derived in
    let key : p.key ≡ q.key = cc in
    bits_once a b (p.is ∙ ap (λ (k : List ℕ). Some (whole_bits k)) key ∙ sym q.is)

one_point : (derives : Derivation) (known : Option EcCurve) (secret : List ℕ)
    (read a b : Option BitString) → IsPointOf derives known secret read a
    → IsPointOf derives known secret read b → a ≡ b
one_point derives known secret (Some point) a b p q = p ∙ sym q
one_point derives (Some curve) secret None a b p q = one_derived derives (curve_kind curve) (field_size curve) secret a b p q
one_point derives None secret None a b p q = p ∙ sym q

one_ed_key : (derives : Derivation) (known : Option EdAlgorithm) (secret : List ℕ)
    (a b : Option BitString) → IsEdKeyOf derives known secret a → IsEdKeyOf derives known secret b → a ≡ b
one_ed_key derives (Some algorithm) secret a b p q = one_derived derives (ed_kind algorithm) 32 secret a b p q
one_ed_key derives None secret a b p q = p ∙ sym q

-- ---- one container

same_oid : (a b : ObjectIdentifier) → identifier_contents a ≡ identifier_contents b → a ≡ b
same_oid a b e = identifiers.once (object_identifier a) a b refl (ap (Primitive 0x06) e)

one_algorithm_identifier : (a b : AlgorithmIdentifier) → identifier_contents a.oid ≡ identifier_contents b.oid
    → kept_option a.parameters ≡ kept_option b.parameters → a ≡ b
one_algorithm_identifier a b oid parameters =
    algorithms.once (algorithm_identifier a) a b refl
    (ap (λ (o : ObjectIdentifier). algorithm_of (object_identifier o) (kept_option a.parameters)) (same_oid a.oid b.oid oid)
    ∙ ap (algorithm_of (object_identifier b.oid)) parameters)

one_container : (curve : ObjectIdentifier) (key : ECPrivateKey) (a b : PrivateKeyInfo) → IsEcContainer curve key a → IsEcContainer curve key b → a ≡ b
one_container curve key a b p q =
    same_info a b (p.version ∙ sym q.version)
    (one_algorithm_identifier a.private_key_algorithm b.private_key_algorithm
    (p.identifier ∙ sym q.identifier) (p.parameters ∙ sym q.parameters)) (p.is
    ∙ sym q.is) (p.attributes ∙ sym q.attributes) (p.public_key ∙ sym q.public_key)

-- ---- one key

pub one_curve_key : (derives : Derivation) (curve : ObjectIdentifier) (read : ECPrivateKey)
    (a b : PrivateKey) → IsCurveKey derives curve read a → IsCurveKey derives curve read b → a ≡ b
one_curve_key derives curve read a b p q =
    let known = one_curve (identifier_contents curve) p.known q.known p.named q.named in
    same_key a b (one_container curve (anew curve read) a.info b.info p.container q.container)
    (one_point derives q.known read.private_key read.public_key a.public_key b.public_key
    (subst (λ (k : Option EcCurve). IsPointOf derives k read.private_key read.public_key a.public_key) known p.point) q.point)

one_kept_ec : (derives : Derivation) (read : ECPrivateKey) (info : PrivateKeyInfo) (a b : PrivateKey) → IsKeptEc derives read info a
    → IsKeptEc derives read info b → a ≡ b
one_kept_ec derives read info a b p q =
    let both : Some (object_identifier p.curve) ≡ Some (object_identifier q.curve) = sym p.parameters ∙ q.parameters in
    let element : object_identifier p.curve ≡ object_identifier q.curve = cc in
    let curve = identifiers.once (object_identifier p.curve) p.curve q.curve refl element in
    one_curve_key derives q.curve read a b (subst (λ (c : ObjectIdentifier). IsCurveKey derives c read a) curve p.is) q.is

one_kept_ed : (derives : Derivation) (secret : List ℕ) (info : PrivateKeyInfo) (a b : PrivateKey) → IsKeptEd derives secret info a
    → IsKeptEd derives secret info b → a ≡ b
one_kept_ed derives secret info a b p q =
    let known = one_algorithm (identifier_contents info.private_key_algorithm.oid) p.known q.known p.named q.named in
    same_key a b (p.as_read ∙ sym q.as_read)
    (one_ed_key derives q.known secret a.public_key b.public_key
    (subst (λ (k : Option EdAlgorithm). IsEdKeyOf derives k secret a.public_key) known p.derived) q.derived)

pub one_kept : (derives : Derivation) (value : PrivateKeyValue) (info : PrivateKeyInfo) (a b : PrivateKey) → IsKeptKey derives value info a
    → IsKeptKey derives value info b → a ≡ b
one_kept derives (values.Rsa rsa) info a b p q = same_key a b (p.0 ∙ sym q.0) (p.1 ∙ sym q.1)
one_kept derives (values.Ec read) info a b p q = one_kept_ec derives read info a b p q
one_kept derives (values.Ed secret) info a b p q = one_kept_ed derives secret info a b p q

-- ---- a key that was read is the key of its own container

again_curve : (curve : ObjectIdentifier) (parameters : Option ObjectIdentifier)
    → option_map (λ (o : ObjectIdentifier). curve)
    (option_map (λ (o : ObjectIdentifier). curve) parameters) ≡ option_map
    (λ (o : ObjectIdentifier). curve) parameters
again_curve curve None = refl
again_curve curve (Some read) = refl

anew_again : (curve : ObjectIdentifier) (read : ECPrivateKey) → anew curve read ≡ anew curve (anew curve read)
anew_again curve read = λ i. record { private_key = read.private_key; parameters = sym (again_curve curve read.parameters) i; public_key = read.public_key }

pub curve_key_again : (derives : Derivation) (curve : ObjectIdentifier) (read : ECPrivateKey)
    (key : PrivateKey) → IsCurveKey derives curve read key
    → IsKeptKey derives key.info.private_key key.info key
curve_key_again derives curve read key is =
    let again : IsCurveKey derives curve (anew curve read) key = record {
      known = is.known;
      named = is.named;
      container = subst (λ (k : ECPrivateKey). IsEcContainer curve k key.info) (anew_again curve read) is.container;
      point = is.point;
    } in
    let kept : IsKeptKey derives (values.Ec (anew curve read)) key.info key = record { curve = curve; parameters = is.container.parameters; is = again } in
    subst (λ (v : PrivateKeyValue). IsKeptKey derives v key.info key) (sym is.container.is) kept

pub kept_again : (derives : Derivation) (value : PrivateKeyValue) (info : PrivateKeyInfo)
    → info.private_key ≡ value → (key : PrivateKey) → IsKeptKey derives value info key
    → IsKeptKey derives key.info.private_key key.info key
kept_again derives (values.Rsa rsa) info is key kept =
    subst (λ (v : PrivateKeyValue). IsKeptKey derives v key.info key) (sym (ap (λ (i : PrivateKeyInfo). i.private_key) kept.0 ∙ is)) (refl, kept.1)
kept_again derives (values.Ec read) info is key kept = curve_key_again derives kept.curve read key kept.is
kept_again derives (values.Ed secret) info is key kept =
    let own : IsKeptEd derives secret key.info key = record {
      as_read = refl;
      known = kept.known;
      named = subst (λ (i : PrivateKeyInfo). IsEdOf (identifier_contents i.private_key_algorithm.oid) kept.known) (sym kept.as_read) kept.named;
      derived = kept.derived;
    } in
    subst (λ (v : PrivateKeyValue). IsKeptKey derives v key.info key) (sym (ap (λ (i : PrivateKeyInfo). i.private_key) kept.as_read ∙ is)) own
