-- Private keys with their algorithms by their fields.
use Rattle.std.proofs.Common.{◌≡◌, ℕ, List, Option, Some, sym, ap, subst, ◌∙◌}
use Rattle.std.specs.Option.{option_map}
use Rattle.der_core.specs.DerElement.{DerElement}
use Rattle.der_core.specs.Encoding.{encoding}
use Rattle.der_core.specs.BorrowedOption.{at_option, kept_option}
use Rattle.der_core.specs.Facts.BorrowedOption.{keep_option}
use Rattle.der_core.specs.declared.elem.Elem.{Elem}
use Rattle.asn1_types.specs.BitString.{HasBitString}
use Rattle.asn1_types.specs.Values.{bit_string_contents}
use Rattle.asn1_types.specs.declared.bit_string.BitString.{BitString}
use Rattle.key_types.specs.AlgorithmIdentifier.{algorithm_identifier}
use Rattle.key_types.specs.declared.algorithm.AlgorithmIdentifier.{AlgorithmIdentifier}
use Rattle.key_types.specs.declared.key_kind.KeyKind.{KeyKind}
use Rattle.key_core.specs.KeyAlgorithm.{Names}
use Rattle.key_core.specs.PrivateKeyVersion.{key_version}
use Rattle.key_core.specs.PrivateKeyValue.{private_key, IsPrivateKeyOf}
use Rattle.key_core.specs.PrivateKeyFields.{HaveTag, private_key_info_of}
use Rattle.key_core.specs.PrivateKeyInfo.{IsPrivateKeyInfo}
use Rattle.key_core.specs.Facts.PrivateKeyFields.{fields_once}
use Rattle.key_core.specs.declared.private_key_version.PrivateKeyVersion.{PrivateKeyVersion}
use Rattle.key_core.specs.declared.private_key_value.PrivateKeyValue.{PrivateKeyValue}
use Rattle.key_core.specs.declared.private_key_info.PrivateKeyInfo.{PrivateKeyInfo}

-- contents octets of a BIT STRING
pub bits_of : (o : Option (List ℕ)) (content : List ℕ) → o ≡ Some content → HasBitString content
    → (bits : Option BitString) × (o ≡ option_map bit_string_contents bits)
bits_of o content is bits = (Some (record { unused = bits.0; payload = bits.1; formed = bits.3 }), is ∙ ap Some bits.2)

-- an element of fields that have values is one of a key
pub of_fields : (t : DerElement) (v : PrivateKeyVersion) (a : DerElement) (octets : List ℕ) (attributes : Option Elem) (public_key : Option (List ℕ))
    (kind : KeyKind)
    → t ≡ private_key_info_of (key_version v) a octets (at_option attributes) public_key → HaveTag (at_option attributes)
    → (algorithm : AlgorithmIdentifier) → a ≡ algorithm_identifier algorithm → Names algorithm kind
    → (key : PrivateKeyValue) → IsPrivateKeyOf kind octets key
    → (bits : Option BitString) → public_key ≡ option_map bit_string_contents bits
    → (info : PrivateKeyInfo) × IsPrivateKeyInfo t info
of_fields t v a octets attributes public_key kind is tagged algorithm same named key of bits point =
    let kept = keep_option attributes in (
      record {
        version = v;
        private_key_algorithm = algorithm;
        private_key = key;
        attributes = kept.0;
        public_key = bits;
        agree = record { named = subst (Names algorithm) (sym of.of_kind) named; tagged = subst HaveTag kept.1 tagged };
      },
      (
        is
            ∙ ap (λ (e : DerElement). private_key_info_of (key_version v) e octets (at_option attributes) public_key) same
            ∙ ap (λ (o : List ℕ). private_key_info_of (key_version v) (algorithm_identifier algorithm) o (at_option attributes) public_key) of.encoded
            ∙ ap (λ (p : Option DerElement). private_key_info_of (key_version v) (algorithm_identifier algorithm) (encoding (private_key key)) p public_key)
            kept.1
            ∙ ap (private_key_info_of (key_version v) (algorithm_identifier algorithm) (encoding (private_key key)) (kept_option kept.0)) point,
        (of.der, tt),
      ),
    )

-- the public key of an element is that of its key
pub point_of : (t v a : DerElement) (octets : List ℕ) (attributes : Option DerElement) (public_key : Option (List ℕ))
    → t ≡ private_key_info_of v a octets attributes public_key → HaveTag attributes
    → (info : PrivateKeyInfo) → IsPrivateKeyInfo t info → public_key ≡ option_map bit_string_contents info.public_key
point_of t v a octets attributes public_key is tagged info spells =
    (fields_once v (key_version info.version) a (algorithm_identifier info.private_key_algorithm) octets (encoding (private_key info.private_key)) attributes
    (kept_option info.attributes) public_key (option_map bit_string_contents info.public_key) tagged info.agree.tagged (sym is ∙ spells.0)).4
