-- Private keys: different ones have different `kept_key` elements, each well formed.
use Rattle.std.proofs.Common.{◌≡◌, ◌∷◌, ap, subst, refl, arith}
use Rattle.std.specs.Prelude.{Option, Some, None}
use Rattle.std.specs.Option.{option_map}
use Rattle.der_core.specs.DerElement.{row}
use Rattle.der_core.specs.Elements.{optional_leaf}
use Rattle.der_core.specs.Encoding.{IsWellFormed, AreWellFormed}
use Rattle.der_core.specs.BorrowedOption.{kept_option}
use Rattle.der_core.specs.Facts.Grammars.{same_fields}
use Rattle.asn1_types.specs.Values.{bit_string_contents}
use Rattle.asn1_types.specs.declared.bit_string.BitString.{BitString}
use Rattle.key_core.specs.CurveParameters.{HasCurve}
use Rattle.key_core.specs.PrivateKey.{kept_key}
use Rattle.key_core.specs.PrivateKeyInfo.{private_key_info}
use Rattle.key_core.specs.Facts.CurveParameters.{HasCurve-prop}
use Rattle.key_core.specs.Facts.PrivateKeyInfos.{infos_once, infos_formed, bits_once}
use Rattle.key_core.specs.declared.private_key_info.PrivateKeyInfo.{PrivateKeyInfo}
use Rattle.key_core.specs.declared.private_key.PrivateKey.{PrivateKey}

abbrev CurveOf : PrivateKeyInfo → Type 0
CurveOf info = HasCurve info.private_key (kept_option info.private_key_algorithm.parameters)

abbrev key_of : (info : PrivateKeyInfo) → Option BitString → CurveOf info → PrivateKey
key_of info public_key curve = record { info = info; public_key = public_key; curve = curve }

-- keys with the same container and public key are the same
pub same_key : (a b : PrivateKey) → a.info ≡ b.info → a.public_key ≡ b.public_key → a ≡ b
same_key a b info public_key =
    let alike : (h : CurveOf a.info) → a ≡ key_of a.info b.public_key h =
    λ h i. key_of a.info (public_key i) (HasCurve-prop a.info.private_key (kept_option a.info.private_key_algorithm.parameters) a.curve h i) in
    subst (λ (x : PrivateKeyInfo). (h : CurveOf x) → a ≡ key_of x b.public_key h) info alike b.curve

leaves_once : (a b : Option BitString) → optional_leaf 0x03 (option_map bit_string_contents a) ≡ optional_leaf 0x03 (option_map bit_string_contents b) → a ≡ b
leaves_once None None e = refl
leaves_once None (Some y) e = absurd cc
leaves_once (Some x) None e = absurd cc
leaves_once (Some x) (Some y) e = let same : bit_string_contents x ≡ bit_string_contents y = cc in bits_once (Some x) (Some y) (ap Some same)

pub keys_once : (a b : PrivateKey) → kept_key a ≡ kept_key b → a ≡ b
keys_once a b e =
    let kids = same_fields (private_key_info a.info ∷ optional_leaf 0x03
    (option_map bit_string_contents a.public_key)) (private_key_info b.info ∷ optional_leaf
    0x03 (option_map bit_string_contents b.public_key)) e in
    let info : private_key_info a.info ≡ private_key_info b.info = cc in
    let public_key : optional_leaf 0x03 (option_map bit_string_contents a.public_key) ≡ optional_leaf 0x03 (option_map bit_string_contents b.public_key) = cc in
    same_key a b (infos_once a.info b.info info) (leaves_once a.public_key b.public_key public_key)

public_formed : (public_key : Option BitString) → AreWellFormed (row (optional_leaf 0x03 (option_map bit_string_contents public_key)))
public_formed None = tt
public_formed (Some bits) = (((omega arith, omega arith, omega arith), refl), tt)

pub keys_formed : (key : PrivateKey) → IsWellFormed (kept_key key)
keys_formed key = ((omega arith, omega arith, omega arith), refl, (infos_formed key.info, public_formed key.public_key))
