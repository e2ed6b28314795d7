-- Private keys with their algorithms: different ones have different elements, each well formed.
use Rattle.std.proofs.Common.{◌≡◌, ◌++◌, Option, Some, None, refl, sym, ap, subst, ◌∙◌, arith}
use Rattle.std.specs.Prelude.{option_to_list}
use Rattle.std.specs.Option.{option_map}
use Rattle.der_core.specs.DerElement.{Primitive, row}
use Rattle.der_core.specs.Elements.{optional_leaf}
use Rattle.der_core.specs.Encoding.{encoding, IsWellFormed, AreWellFormed}
use Rattle.der_core.specs.Owned.{KeptElement}
use Rattle.der_core.specs.BorrowedOption.{kept_option}
use Rattle.der_core.specs.Structure.{IsGrammar}
use Rattle.der_core.specs.Facts.Owned.{same_kept}
use Rattle.asn1_types.specs.Values.{bit_string_contents}
use Rattle.asn1_types.specs.Elements.{bit_string}
use Rattle.asn1_types.specs.Facts.Elements.{bit_strings}
use Rattle.asn1_types.specs.declared.bit_string.BitString.{BitString}
use Rattle.key_types.specs.AlgorithmIdentifier.{algorithm_identifier}
use Rattle.key_types.specs.Facts.Algorithms.{algorithms}
use Rattle.key_types.specs.Facts.Kinds.{one_kind}
use Rattle.key_types.specs.declared.algorithm.AlgorithmIdentifier.{AlgorithmIdentifier}
use Rattle.asn1_types.specs.Values.{identifier_contents}
use Rattle.key_core.specs.KeyAlgorithm.{Names}
use Rattle.key_core.specs.PrivateKeyVersion.{key_version}
use Rattle.key_core.specs.PrivateKeyValue.{private_kind, private_key}
use Rattle.key_core.specs.PrivateKeyInfo.{private_key_info, inner_private_key, IsPrivateKeyInfo}
use Rattle.key_core.specs.Agreement.{Agree}
use Rattle.key_core.specs.Facts.Agreements.{Agree-prop}
use Rattle.key_core.specs.Facts.PrivateKeyFields.{fields_once}
use Rattle.key_core.specs.Facts.PrivateKeyValues.{keys_by_encoding}
use Rattle.key_core.specs.declared.private_key_value.PrivateKeyValue.{PrivateKeyValue}
use Rattle.key_core.specs.declared.private_key_version.PrivateKeyVersion.{PrivateKeyVersion}
use Rattle.key_core.specs.declared.private_key_version.PrivateKeyVersion.TheVariants as versions
use Rattle.key_core.specs.declared.private_key_info.PrivateKeyInfo.{PrivateKeyInfo}

versions_once : (v w : PrivateKeyVersion) → key_version v ≡ key_version w → v ≡ w
versions_once versions.V1 versions.V1 e = refl
versions_once versions.V1 versions.V2 e = absurd cc
versions_once versions.V2 versions.V1 e = absurd cc
versions_once versions.V2 versions.V2 e = refl

versions_formed : (v : PrivateKeyVersion) → IsWellFormed (key_version v)
versions_formed versions.V1 = ((omega arith, omega arith, omega arith), refl)
versions_formed versions.V2 = ((omega arith, omega arith, omega arith), refl)

kept_once : (a b : Option KeptElement) → kept_option a ≡ kept_option b → a ≡ b
kept_once None None e = refl
kept_once None (Some y) e = absurd cc
kept_once (Some x) None e = absurd cc
kept_once (Some x) (Some y) e = let same : x.element ≡ y.element = cc in ap Some (same_kept x y same)

contents_once : (a b : BitString) → bit_string_contents a ≡ bit_string_contents b → a ≡ b
contents_once a b e = bit_strings.once (bit_string a) a b refl (ap (Primitive 0x03) e)

pub bits_once : (a b : Option BitString) → option_map bit_string_contents a ≡ option_map bit_string_contents b → a ≡ b
bits_once None None e = refl
bits_once None (Some y) e = absurd cc
bits_once (Some x) None e = absurd cc
bits_once (Some x) (Some y) e = let same : bit_string_contents x ≡ bit_string_contents y = cc in ap Some (contents_once x y same)

-- ---- the whole

abbrev info_of : (v : PrivateKeyVersion) (algorithm : AlgorithmIdentifier) (key : PrivateKeyValue)
    (attributes : Option KeptElement) (public_key : Option BitString)
    → Agree algorithm key attributes → PrivateKeyInfo
info_of v algorithm key attributes public_key agree =
    record { version = v; private_key_algorithm = algorithm; private_key = key; attributes = attributes; public_key = public_key; agree = agree }

-- infos with the same fields are the same
pub same_info : (a b : PrivateKeyInfo) → a.version ≡ b.version
    → a.private_key_algorithm ≡ b.private_key_algorithm → a.private_key ≡ b.private_key
    → a.attributes ≡ b.attributes → a.public_key ≡ b.public_key → a ≡ b
same_info a b v algorithm key attributes public_key =
    let alike : (h : Agree a.private_key_algorithm a.private_key a.attributes)
    → a ≡ info_of b.version a.private_key_algorithm a.private_key a.attributes b.public_key h =
    λ h i. info_of (v i) a.private_key_algorithm a.private_key a.attributes (public_key i)
    (Agree-prop a.private_key_algorithm a.private_key a.attributes a.agree h i) in
    let with_attributes : (h : Agree a.private_key_algorithm a.private_key b.attributes)
    → a ≡ info_of b.version a.private_key_algorithm a.private_key b.attributes b.public_key h =
    subst (λ (t : Option KeptElement). (h : Agree a.private_key_algorithm a.private_key t)
    → a ≡ info_of b.version a.private_key_algorithm a.private_key t b.public_key h) attributes alike in
    let with_key : (h : Agree a.private_key_algorithm b.private_key b.attributes)
    → a ≡ info_of b.version a.private_key_algorithm b.private_key b.attributes b.public_key h =
    subst (λ (k : PrivateKeyValue). (h : Agree a.private_key_algorithm k b.attributes)
    → a ≡ info_of b.version a.private_key_algorithm k b.attributes b.public_key h) key with_attributes in
    subst (λ (x : AlgorithmIdentifier). (h : Agree x b.private_key b.attributes) → a ≡ info_of b.version x b.private_key b.attributes b.public_key h)
    algorithm with_key b.agree

pub infos_once : (a b : PrivateKeyInfo) → private_key_info a ≡ private_key_info b → a ≡ b
infos_once a b e =
    let parts = fields_once (key_version a.version) (key_version b.version)
    (algorithm_identifier a.private_key_algorithm)
    (algorithm_identifier b.private_key_algorithm) (encoding (private_key a.private_key))
    (encoding (private_key b.private_key)) (kept_option a.attributes)
    (kept_option b.attributes) (option_map bit_string_contents a.public_key)
    (option_map bit_string_contents b.public_key) a.agree.tagged b.agree.tagged e in
    let algorithm = algorithms.once (algorithm_identifier a.private_key_algorithm) a.private_key_algorithm b.private_key_algorithm refl parts.1 in
    let named : Names b.private_key_algorithm (private_kind a.private_key) =
    subst (λ (x : AlgorithmIdentifier). Names x (private_kind a.private_key)) algorithm a.agree.named in
    let kind = one_kind (private_kind a.private_key) (private_kind b.private_key) (identifier_contents b.private_key_algorithm.oid) named b.agree.named in
    same_info a b (versions_once a.version b.version parts.0) algorithm
    (keys_by_encoding a.private_key b.private_key kind parts.2)
    (kept_once a.attributes b.attributes parts.3) (bits_once a.public_key b.public_key parts.4)

public_formed : (public_key : Option BitString) → AreWellFormed (row (optional_leaf 0x81 (option_map bit_string_contents public_key)))
public_formed None = tt
public_formed (Some bits) = (((omega arith, omega arith, omega arith), refl), tt)

optional_formed : (attributes : Option KeptElement) (public_key : Option BitString)
    → AreWellFormed (row (option_to_list (kept_option attributes) ++ optional_leaf 0x81
    (option_map bit_string_contents public_key)))
optional_formed None public_key = public_formed public_key
optional_formed (Some attributes) public_key = (attributes.der.formed, public_formed public_key)

pub infos_formed : (info : PrivateKeyInfo) → IsWellFormed (private_key_info info)
infos_formed info = (
  (omega arith, omega arith, omega arith),
  refl,
  (
    versions_formed info.version,
    (
      algorithms.formed info.private_key_algorithm,
      (
        ((omega arith, omega arith, omega arith), refl),
        optional_formed info.attributes info.public_key,
      ),
    ),
  ),
)

pub private_key_infos : IsGrammar IsPrivateKeyInfo private_key_info inner_private_key
private_key_infos = record {
  once = λ element a b p q. infos_once a b (sym p.0 ∙ q.0);
  bounded = λ element info p. p.1;
  spelled = λ info der. (refl, der);
  formed = infos_formed;
}
