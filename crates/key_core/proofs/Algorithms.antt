-- Algorithms by the octets of their OIDs.
use Rattle.std.proofs.Common.{◌≡◌, ◌≢◌, IsTrue, ℕ, List, ◌∷◌, Option, Some, None, sym, ap, ◌∙◌, subst}
use Rattle.std.specs.Prelude.{option_to_list, MatchOption}
use Rattle.der_core.specs.DerElement.{DerElement, Primitive, Constructed}
use Rattle.der_core.specs.Elements.{sequence}
use Rattle.der_core.specs.Owned.{KeptElement}
use Rattle.der_core.specs.BorrowedOption.{kept_option}
use Rattle.der_core.specs.Facts.Grammars.{same_fields}
use Rattle.der_core.specs.Structure.{Fits}
use Rattle.asn1_types.specs.Elements.{object_identifier}
use Rattle.asn1_types.specs.Values.{identifier_contents}
use Rattle.asn1_types.specs.declared.bit_string.BitString.{BitString}
use Rattle.asn1_types.specs.declared.oid.ObjectIdentifier.{ObjectIdentifier}
use Rattle.key_types.specs.AlgorithmIdentifier.{algorithm_identifier}
use Rattle.key_types.specs.KeyKind.{names_kind, MayHave}
use Rattle.key_types.specs.SubjectKey.{kind_of_key}
use Rattle.key_types.specs.declared.key_kind.KeyKind.TheVariants as kinds
use Rattle.key_types.specs.declared.subject_key.SubjectKey.{SubjectKey}
use Rattle.key_types.specs.declared.subject_key.SubjectKey.TheVariants as keys
use Rattle.key_types.specs.declared.ec_private_key.ECPrivateKey.{ECPrivateKey}
use Rattle.key_types.specs.declared.algorithm.AlgorithmIdentifier.{AlgorithmIdentifier}
use Rattle.key_types.specs.declared.key_kind.KeyKind.{KeyKind}
use Rattle.key_core.specs.CurveParameters.{HasCurve}
use Rattle.key_core.specs.KeyAlgorithm.{Names}
use Rattle.key_core.specs.declared.private_key_value.PrivateKeyValue.{PrivateKeyValue}
use Rattle.key_core.specs.declared.private_key_value.PrivateKeyValue.TheVariants as values

leaf_once : (x y : List ℕ) → Primitive 0x06 x ≡ Primitive 0x06 y → x ≡ y
leaf_once x y e = cc

-- the first kid is the OID of the algorithm
pub names_at : (t : DerElement) (kids rest : List DerElement) (first : DerElement) (oid : List ℕ) (kind : KeyKind) (a : AlgorithmIdentifier)
    → t ≡ sequence kids → kids ≡ first ∷ rest → first ≡ Primitive 0x06 oid → t ≡ algorithm_identifier a → IsTrue (names_kind kind oid) → Names a kind
names_at t kids rest first oid kind a is begins leaf spells named =
    let same = same_fields kids (object_identifier a.oid ∷ option_to_list (kept_option a.parameters)) (sym is ∙ spells) in
    let one : first ≡ object_identifier a.oid = cc in
    let contents : oid ≡ identifier_contents a.oid = leaf_once oid (identifier_contents a.oid) (sym leaf ∙ one) in
    subst (λ (o : List ℕ). IsTrue (names_kind kind o)) contents named

-- an OID's element holds its contents octets
pub identifier_lies : (t : DerElement) (octets : List ℕ) → t ≡ Primitive 0x06 octets
    → Fits (λ (element : DerElement) (o : ObjectIdentifier). element ≡ object_identifier o) t
    → (o : ObjectIdentifier) × (t ≡ object_identifier o) × (identifier_contents o ≡ octets)
identifier_lies t octets is fit = (fit.0, fit.1, leaf_once (identifier_contents fit.0) octets (sym fit.1 ∙ is))

-- the OID that the parameters of an algorithm are
pub curve_of_parameters : {X : Type 0} (contents : X → List ℕ) (parameters : Option KeptElement) (raw : KeptElement) (t : DerElement) → Some raw ≡ parameters
    → t ≡ raw.element
    → (r : Option X) → MatchOption r ((o : ObjectIdentifier) → t ≢ object_identifier o)
    (λ x. (o : ObjectIdentifier) × (t ≡ object_identifier o) × (identifier_contents o ≡ contents x))
    → MatchOption r ((o : ObjectIdentifier) → kept_option parameters ≢ Some (object_identifier o))
    (λ x. (o : ObjectIdentifier) × (kept_option parameters ≡ Some
    (object_identifier o)) × (identifier_contents o ≡ contents x))
curve_of_parameters contents parameters raw t stands is None none = λ o e.
    let both : Some t ≡ Some (object_identifier o) = ap Some is ∙ ap kept_option stands ∙ e in
    let one : t ≡ object_identifier o = cc in
    none o one
curve_of_parameters contents parameters raw t stands is (Some x) found = (found.0, sym (ap kept_option stands) ∙ ap Some (sym is) ∙ ap Some found.1, found.2)

-- ---- parameters of EC keys

pub no_curve_lacks : (parameters : Option DerElement) → MayHave kinds.Ec parameters → ((o : ObjectIdentifier) → parameters ≢ Some (object_identifier o)) → ⊥
no_curve_lacks None may none = absurd may
no_curve_lacks (Some (Primitive tag contents)) may none =
    none (record { contents = contents; formed = may.1 }) (ap (λ (n : ℕ). Some (Primitive n contents)) may.0)
no_curve_lacks (Some (Constructed tag kids)) may none = absurd may

ec_may_have : (read : ECPrivateKey) (parameters : Option DerElement) → HasCurve (values.Ec read) parameters → MayHave kinds.Ec parameters
ec_may_have read None has = absurd has
ec_may_have read (Some parameters) has = has

pub may_have : (value : PrivateKeyValue) (read : ECPrivateKey) (parameters : Option DerElement) → value ≡ values.Ec read → HasCurve value parameters
    → MayHave kinds.Ec parameters
may_have value read parameters is has = ec_may_have read parameters (subst (λ (v : PrivateKeyValue). HasCurve v parameters) is has)
