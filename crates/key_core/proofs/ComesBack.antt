-- What is written of a key is refused by its reader only when out of memory.
use Rattle.std.proofs.Common.{◌≡◌, ℕ, List, Option, Some, None, refl, sym, ap, subst, ◌∙◌, inl, inr}
use Rattle.der_core.specs.DerElement.{DerElement}
use Rattle.der_core.specs.Encoding.{encoding, IsDer}
use Rattle.der_core.specs.BorrowedOption.{kept_option}
use Rattle.der_core.specs.Borrowed.{AreDer}
use Rattle.der_core.specs.Refusals.{RefusesOctets}
use Rattle.der_core.specs.Facts.Fronts.{formed_encoding_once}
use Rattle.der_core.specs.declared.error.DerError.TheVariants as der
use Rattle.der_core.proofs.Exact.{no_fault_where_whole}
use Rattle.asn1_types.specs.Elements.{object_identifier}
use Rattle.asn1_types.specs.Facts.Elements.{identifiers}
use Rattle.asn1_types.specs.Values.{identifier_contents}
use Rattle.asn1_types.specs.declared.bit_string.BitString.{BitString}
use Rattle.asn1_types.specs.declared.oid.ObjectIdentifier.{ObjectIdentifier}
use Rattle.key_types.specs.declared.ec_private_key.ECPrivateKey.{ECPrivateKey}
use Rattle.sig_core.specs.declared.algorithm.SchemeKind.{SchemeKind}
use Rattle.key_core.specs.CurveKeys.{IsCurveKey, RefusesCurveKey}
use Rattle.key_core.specs.DerivedKeys.{Derivation, IsDerived, RefusesDerived, IsPointOf, RefusesPoint}
use Rattle.key_core.specs.DerivedKeys.{IsEdKeyOf, RefusesEdKey, IsEcRefusal, IsEdRefusal, curve_kind, ed_kind}
use Rattle.key_core.specs.EcCurve.{field_size}
use Rattle.key_core.specs.KeyRefusals.{IsUnreadKey}
use Rattle.key_core.specs.Pkcs8.{IsKeptEc, IsKeptEd, IsKeptKey, KeepsItself, RefusesEcInfo, RefusesEdInfo, RefusesKept, RefusesPkcs8}
use Rattle.key_core.specs.PrivateKeyInfo.{private_key_info, inner_private_key, IsPrivateKeyInfo}
use Rattle.key_core.specs.Facts.PrivateKeyInfos.{infos_once, infos_formed}
use Rattle.key_core.specs.declared.ec_curve.EcCurve.{EcCurve}
use Rattle.key_core.specs.declared.ed_algorithm.EdAlgorithm.{EdAlgorithm}
use Rattle.key_core.specs.declared.element.Element.{Element}
use Rattle.key_core.specs.declared.element.Element.TheVariants as elements
use Rattle.key_core.specs.declared.error.KeyContext.{KeyContext}
use Rattle.key_core.specs.declared.error.KeyContext.TheVariants as contexts
use Rattle.key_core.specs.declared.error.KeyError.{KeyError}
use Rattle.key_core.specs.declared.error.KeyError.TheVariants as errors
use Rattle.key_core.specs.declared.private_key.PrivateKey.{PrivateKey}
use Rattle.key_core.specs.declared.private_key_info.PrivateKeyInfo.{PrivateKeyInfo}
use Rattle.key_core.specs.declared.private_key_value.PrivateKeyValue.{PrivateKeyValue}
use Rattle.key_core.specs.declared.private_key_value.PrivateKeyValue.TheVariants as values
use Rattle.key_core.proofs.OwnedKeys.{one_curve, one_algorithm}

-- octets that encode a value are read, or memory runs out
pub unread_for_memory : {X : Type 0} (spells : DerElement → X → Type 0) (octets : List ℕ) (element : DerElement) (value : X) → IsDer element
    → octets ≡ encoding element → spells element value
    → (structure : Element) (e : KeyError) → IsUnreadKey structure (RefusesOctets spells octets) e → e ≡ errors.Memory
unread_for_memory spells octets element value bounds is spelled structure e (der.Malformed m, returned, refused) =
    absurd (no_fault_where_whole octets element m.at m.fault bounds is refused)
unread_for_memory spells octets element value bounds is spelled structure e (der.Shape, returned, refused) =
    let same = formed_encoding_once element refused.element bounds.formed refused.der.formed (sym is ∙ refused.encoded) in
    absurd (refused.none value (subst (λ (x : DerElement). spells x value) same spelled))
unread_for_memory spells octets element value bounds is spelled structure e (der.TooDeep, returned, refused) = absurd refused
unread_for_memory spells octets element value bounds is spelled structure e (der.TooLong, returned, refused) = absurd refused
unread_for_memory spells octets element value bounds is spelled structure e (der.Memory, returned, refused) = returned

-- ---- a stored key isn't refused

some_is_not_none : (key : List ℕ) → ◌≡◌ {A = Option (List ℕ)} (Some key) None → ⊥
some_is_not_none key e = cc

not_derived : (derives : Derivation) (kind : SchemeKind) (size : ℕ) (secret : List ℕ) (public_key : Option BitString) (context : KeyContext)
    → IsDerived derives kind size secret public_key → RefusesDerived derives kind size secret context → ⊥
not_derived derives kind size secret public_key contexts.NotRsa is refused = refused
not_derived derives kind size secret public_key contexts.NotEc is refused = refused
not_derived derives kind size secret public_key contexts.NotEd is refused = refused
not_derived derives kind size secret public_key contexts.CurveParameters is refused = refused
not_derived derives kind size secret public_key contexts.CurveMissing is refused = refused
not_derived derives kind size secret public_key contexts.CoordinateSize is refused = refused
not_derived derives kind size secret public_key contexts.SecretSize is refused = refused is.sized
not_derived derives kind size secret public_key contexts.UnsupportedCurve is refused = refused
not_derived derives kind size secret public_key contexts.UnsupportedEd is refused = refused
not_derived derives kind size secret public_key contexts.PublicKeyMissing is refused = refused
not_derived derives kind size secret public_key contexts.SchemeRefused is refused = some_is_not_none is.key (sym is.derived ∙ refused.1)

not_point : (derives : Derivation) (known : Option EcCurve) (secret : List ℕ) (read public_key : Option BitString) (context : KeyContext)
    → IsPointOf derives known secret read public_key → RefusesPoint derives known secret read context → ⊥
not_point derives known secret (Some read) public_key context is refused = refused
not_point derives (Some curve) secret None public_key context is refused =
    not_derived derives (curve_kind curve) (field_size curve) secret public_key context is refused
not_point derives None secret None public_key context is refused = refused

not_ed_key : (derives : Derivation) (known : Option EdAlgorithm) (secret : List ℕ) (public_key : Option BitString) (context : KeyContext)
    → IsEdKeyOf derives known secret public_key → RefusesEdKey derives known secret context → ⊥
not_ed_key derives (Some algorithm) secret public_key context is refused = not_derived derives (ed_kind algorithm) 32 secret public_key context is refused
not_ed_key derives None secret public_key context is refused = refused

not_curve_key : (derives : Derivation) (curve : ObjectIdentifier) (read : ECPrivateKey) (key : PrivateKey) (context : KeyContext)
    → IsCurveKey derives curve read key → RefusesCurveKey derives curve read context → ⊥
not_curve_key derives curve read key context is refused =
    let known = one_curve (identifier_contents curve) is.known refused.0 is.named refused.1 in
    not_point derives refused.0 read.private_key read.public_key key.public_key context
    (subst (λ (k : Option EcCurve). IsPointOf derives k read.private_key read.public_key key.public_key) known is.point) refused.2

not_ec_info : (derives : Derivation) (read : ECPrivateKey) (info : PrivateKeyInfo) (key : PrivateKey) (context : KeyContext)
    → IsKeptEc derives read info key → RefusesEcInfo derives read (kept_option info.private_key_algorithm.parameters) context → ⊥
not_ec_info derives read info key context kept (inl none) = none.1 kept.curve kept.parameters
not_ec_info derives read info key context kept (inr refused) =
    let both : Some (object_identifier kept.curve) ≡ Some (object_identifier refused.0) = sym kept.parameters ∙ refused.1 in
    let element : object_identifier kept.curve ≡ object_identifier refused.0 = cc in
    let curve = identifiers.once (object_identifier kept.curve) kept.curve refused.0 refl element in
    not_curve_key derives refused.0 read key context (subst (λ (c : ObjectIdentifier). IsCurveKey derives c read key) curve kept.is) refused.2

not_ed_info : (derives : Derivation) (secret : List ℕ) (info : PrivateKeyInfo) (key : PrivateKey) (context : KeyContext)
    → IsKeptEd derives secret info key → RefusesEdInfo derives secret (identifier_contents info.private_key_algorithm.oid) context → ⊥
not_ed_info derives secret info key context kept refused =
    let known = one_algorithm (identifier_contents info.private_key_algorithm.oid) kept.known refused.0 kept.named refused.1 in
    not_ed_key derives refused.0 secret key.public_key context
    (subst (λ (k : Option EdAlgorithm). IsEdKeyOf derives k secret key.public_key) known kept.derived) refused.2

ec_for_memory : (Refuses : KeyContext → Type 0) → ((context : KeyContext) → Refuses context → ⊥) → (e : KeyError) → IsEcRefusal Refuses e → e ≡ errors.Memory
ec_for_memory Refuses none (errors.Asn1Serialization element source) refused = absurd refused
ec_for_memory Refuses none (errors.Asn1Deserialization element source) refused = absurd refused
ec_for_memory Refuses none (errors.Rsa context) refused = absurd refused
ec_for_memory Refuses none (errors.EC context) refused = absurd (none context refused)
ec_for_memory Refuses none (errors.ED context) refused = absurd refused
ec_for_memory Refuses none (errors.UnsupportedAlgorithm kind) refused = absurd refused
ec_for_memory Refuses none errors.Memory refused = refl

ed_for_memory : (Refuses : KeyContext → Type 0) → ((context : KeyContext) → Refuses context → ⊥) → (e : KeyError) → IsEdRefusal Refuses e → e ≡ errors.Memory
ed_for_memory Refuses none (errors.Asn1Serialization element source) refused = absurd refused
ed_for_memory Refuses none (errors.Asn1Deserialization element source) refused = absurd refused
ed_for_memory Refuses none (errors.Rsa context) refused = absurd refused
ed_for_memory Refuses none (errors.EC context) refused = absurd refused
ed_for_memory Refuses none (errors.ED context) refused = absurd (none context refused)
ed_for_memory Refuses none (errors.UnsupportedAlgorithm kind) refused = absurd refused
ed_for_memory Refuses none errors.Memory refused = refl

kept_for_memory : (derives : Derivation) (value : PrivateKeyValue) (info : PrivateKeyInfo) (key : PrivateKey) (e : KeyError)
    → IsKeptKey derives value info key → RefusesKept derives value info e → e ≡ errors.Memory
kept_for_memory derives (values.Rsa rsa) info key e kept refused = refused
kept_for_memory derives (values.Ec read) info key e kept refused =
    ec_for_memory (RefusesEcInfo derives read (kept_option info.private_key_algorithm.parameters))
    (λ context. not_ec_info derives read info key context kept) e refused
kept_for_memory derives (values.Ed secret) info key e kept refused =
    ed_for_memory (RefusesEdInfo derives secret (identifier_contents info.private_key_algorithm.oid))
    (λ context. not_ed_info derives secret info key context kept) e refused

pub private_for_memory : (derives : Derivation) (octets : List ℕ) (key : PrivateKey) (e : KeyError)
    → KeepsItself derives key → octets ≡ encoding (private_key_info key.info) → IsDer (private_key_info key.info) → AreDer (inner_private_key key.info)
    → RefusesPkcs8 derives octets e → e ≡ errors.Memory
private_for_memory derives octets key e own written bounds inner (inl unread) =
    unread_for_memory IsPrivateKeyInfo octets (private_key_info key.info) key.info bounds written (refl, inner) elements.PrivateKeyInfo e unread
private_for_memory derives octets key e own written bounds inner (inr refused) =
    let info = refused.0 in
    let within = refused.1 in
    let encoded : encoding (private_key_info info) ≡ encoding (private_key_info key.info) = ap encoding (sym within.spelled.0) ∙ sym within.encoded ∙ written in
    let same =
    infos_once info key.info (formed_encoding_once (private_key_info info) (private_key_info key.info) (infos_formed info) (infos_formed key.info) encoded) in
    kept_for_memory derives key.info.private_key key.info key e own (subst (λ (i : PrivateKeyInfo). RefusesKept derives i.private_key i e) same refused.2)
