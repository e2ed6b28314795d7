-- Public keys with their algorithms: different ones have different elements, each well formed.
use Rattle.std.proofs.Common.{◌≡◌, IsTrue, ℕ, refl, sym, ap, subst, ◌∙◌, arith}
use Rattle.der_core.specs.Encoding.{encoding, IsWellFormed}
use Rattle.der_core.specs.Structure.{IsGrammar}
use Rattle.der_core.specs.Facts.Fronts.{formed_encoding_once}
use Rattle.asn1_types.specs.Values.{identifier_contents}
use Rattle.asn1_types.specs.Elements.{bit_string}
use Rattle.asn1_types.specs.Facts.Elements.{bit_strings}
use Rattle.asn1_types.specs.declared.bit_string.BitString.{BitString}
use Rattle.key_types.specs.AlgorithmIdentifier.{algorithm_identifier}
use Rattle.key_types.specs.RsaPublicKey.{rsa_public_key}
use Rattle.key_types.specs.KeyKind.{names_kind, IsAlgorithmOf}
use Rattle.key_types.specs.SubjectKey.{kind_of_key}
use Rattle.std.specs.Prelude.{◌==◌, if◌then◌else◌}
use Rattle.key_types.specs.PublicKeyInfo.{key_kind_number, key_octets, subject_public_key, inner_key, public_key_info, IsPublicKeyInfo}
use Rattle.key_types.specs.Facts.Algorithms.{algorithms, rsa_public_keys}
use Rattle.key_types.specs.Facts.Kinds.{IsAlgorithmOf-prop, one_kind}
use Rattle.key_types.specs.declared.algorithm.AlgorithmIdentifier.{AlgorithmIdentifier}
use Rattle.key_types.specs.declared.key_kind.KeyKind.{KeyKind}
use Rattle.key_types.specs.declared.key_kind.KeyKind.TheVariants as kinds
use Rattle.key_types.specs.declared.subject_key.SubjectKey.{SubjectKey}
use Rattle.key_types.specs.declared.subject_key.SubjectKey.TheVariants as keys
use Rattle.key_types.specs.declared.key_info.SubjectPublicKeyInfo.{SubjectPublicKeyInfo}

bits_once : (a b : BitString) → bit_string a ≡ bit_string b → a ≡ b
bits_once a b e = bit_strings.once (bit_string a) a b refl e

-- a key is determined by its kind and its bits
pub keys_once : (x y : SubjectKey) → kind_of_key x ≡ kind_of_key y → subject_public_key x ≡ subject_public_key y → x ≡ y
keys_once (keys.Rsa x) (keys.Rsa y) kind e =
    let octets : encoding (rsa_public_key x) ≡ encoding (rsa_public_key y) = cc in
    ap keys.Rsa (rsa_public_keys.once (rsa_public_key x) x y refl
    (formed_encoding_once (rsa_public_key x) (rsa_public_key y) (rsa_public_keys.formed x) (rsa_public_keys.formed y) octets))
keys_once (keys.Ec x) (keys.Ec y) kind e = ap keys.Ec (bits_once x y e)
keys_once (keys.Ed x) (keys.Ed y) kind e = ap keys.Ed (bits_once x y e)
keys_once (keys.Mldsa x) (keys.Mldsa y) kind e = ap keys.Mldsa (bits_once x y e)
keys_once x y kind e = absurd cc

pub keys_formed : (key : SubjectKey) → IsWellFormed (subject_public_key key)
keys_formed (keys.Rsa key) = ((omega arith, omega arith, omega arith), refl)
keys_formed (keys.Ec bits) = bit_strings.formed bits
keys_formed (keys.Ed bits) = bit_strings.formed bits
keys_formed (keys.Mldsa bits) = bit_strings.formed bits

abbrev info_of : (algorithm : AlgorithmIdentifier) (key : SubjectKey) → IsAlgorithmOf (kind_of_key key) algorithm → SubjectPublicKeyInfo
info_of algorithm key fits = record { algorithm = algorithm; subject_public_key = key; fits = fits }

pub same_info : (a b : SubjectPublicKeyInfo) → a.algorithm ≡ b.algorithm → a.subject_public_key ≡ b.subject_public_key → a ≡ b
same_info a b algorithm key =
    let with_key : (h : IsAlgorithmOf (kind_of_key b.subject_public_key) a.algorithm) → a ≡ info_of a.algorithm b.subject_public_key h =
    subst (λ (k : SubjectKey). (h : IsAlgorithmOf (kind_of_key k) a.algorithm) → a ≡ info_of a.algorithm k h) key
    (λ h. ap (info_of a.algorithm a.subject_public_key) (IsAlgorithmOf-prop (kind_of_key a.subject_public_key) a.algorithm a.fits h)) in
    subst (λ (x : AlgorithmIdentifier). (h : IsAlgorithmOf (kind_of_key b.subject_public_key) x) → a ≡ info_of x b.subject_public_key h)
    algorithm with_key b.fits

pub infos_once : (a b : SubjectPublicKeyInfo) → public_key_info a ≡ public_key_info b → a ≡ b
infos_once a b same =
    let first : algorithm_identifier a.algorithm ≡ algorithm_identifier b.algorithm = cc in
    let second : subject_public_key a.subject_public_key ≡ subject_public_key b.subject_public_key = cc in
    let algorithm = algorithms.once (algorithm_identifier a.algorithm) a.algorithm b.algorithm refl first in
    let named : IsTrue (names_kind (kind_of_key a.subject_public_key) (identifier_contents b.algorithm.oid)) =
    subst (λ (x : AlgorithmIdentifier). IsTrue (names_kind (kind_of_key a.subject_public_key) (identifier_contents x.oid))) algorithm a.fits.named in
    let kind = one_kind (kind_of_key a.subject_public_key) (kind_of_key b.subject_public_key) (identifier_contents b.algorithm.oid) named b.fits.named in
    same_info a b algorithm (keys_once a.subject_public_key b.subject_public_key kind second)

pub infos_formed : (info : SubjectPublicKeyInfo) → IsWellFormed (public_key_info info)
infos_formed info = ((omega arith, omega arith, omega arith), refl, (algorithms.formed info.algorithm, (keys_formed info.subject_public_key, tt)))

pub public_key_infos : IsGrammar IsPublicKeyInfo public_key_info (λ info. inner_key info.subject_public_key)
public_key_infos = record {
  once = λ element a b p q. infos_once a b (sym p.0 ∙ q.0);
  bounded = λ element info p. p.1;
  spelled = λ info der. (refl, der);
  formed = infos_formed;
}

-- ---- keys by their octets

abbrev kind_at : ℕ → KeyKind
kind_at number = if number == 0 then kinds.Rsa else (if number == 1 then kinds.Ec else (if number == 2 then kinds.Ed else kinds.Mldsa))

kind_of_number : (kind : KeyKind) → kind_at (key_kind_number kind) ≡ kind
kind_of_number kinds.Rsa = refl
kind_of_number kinds.Ec = refl
kind_of_number kinds.Ed = refl
kind_of_number kinds.Mldsa = refl

pub keys_by_octets : (a b : SubjectKey) → key_octets a ≡ key_octets b → a ≡ b
keys_by_octets a b e =
    let numbers : key_kind_number (kind_of_key a) ≡ key_kind_number (kind_of_key b) = cc in
    let octets : encoding (subject_public_key a) ≡ encoding (subject_public_key b) = cc in
    keys_once a b (sym (kind_of_number (kind_of_key a)) ∙ ap kind_at numbers ∙ kind_of_number (kind_of_key b))
    (formed_encoding_once (subject_public_key a) (subject_public_key b) (keys_formed a) (keys_formed b) octets)
