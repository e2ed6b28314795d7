-- SubjectPublicKeyInfo ::= SEQUENCE { algorithm AlgorithmIdentifier, subjectPublicKey BIT STRING }
-- (RFC 5280 4.1)
use Rattle.std.specs.Prelude.{◌≡◌, ℕ, List, [], ◌∷◌}
use Rattle.der_core.specs.DerElement.{DerElement}
use Rattle.der_core.specs.Encoding.{encoding}
use Rattle.der_core.specs.Borrowed.{AreDer}
use Rattle.der_core.specs.Elements.{sequence, bit_octets}
use Rattle.asn1_types.specs.Elements.{bit_string}
use Rattle.key_types.specs.AlgorithmIdentifier.{algorithm_identifier}
use Rattle.key_types.specs.RsaPublicKey.{rsa_public_key}
use Rattle.key_types.specs.SubjectKey.{kind_of_key}
use Rattle.key_types.specs.declared.key_kind.KeyKind.{KeyKind}
use Rattle.key_types.specs.declared.key_kind.KeyKind.TheVariants as kinds
use Rattle.key_types.specs.declared.key_info.SubjectPublicKeyInfo.{SubjectPublicKeyInfo}
use Rattle.key_types.specs.declared.subject_key.SubjectKey.{SubjectKey}
use Rattle.key_types.specs.declared.subject_key.SubjectKey.TheVariants as keys

-- The bits of an RSA key are those of the encoding of an RSAPublicKey (RFC 3279 2.3.1).
abbrev pub subject_public_key : SubjectKey → DerElement
subject_public_key (keys.Rsa key) = bit_octets (encoding (rsa_public_key key))
subject_public_key (keys.Ec bits) = bit_string bits
subject_public_key (keys.Ed bits) = bit_string bits
subject_public_key (keys.Mldsa bits) = bit_string bits

-- what is wrapped in the bits as an element of its own
abbrev pub inner_key : SubjectKey → List DerElement
inner_key (keys.Rsa key) = rsa_public_key key ∷ []
inner_key (keys.Ec bits) = []
inner_key (keys.Ed bits) = []
inner_key (keys.Mldsa bits) = []

-- the algorithm, then the key
abbrev pub public_key_info : SubjectPublicKeyInfo → DerElement
public_key_info info =
    sequence (algorithm_identifier info.algorithm ∷ subject_public_key info.subject_public_key ∷ [])

-- the element encodes this key, whose wrapped element is within limits
abbrev pub IsSubjectKey : DerElement → SubjectKey → Type 0
IsSubjectKey element key = (element ≡ subject_public_key key) × AreDer (inner_key key)

-- the element encodes this algorithm and key, whose wrapped element is within limits
abbrev pub IsPublicKeyInfo : DerElement → SubjectPublicKeyInfo → Type 0
IsPublicKeyInfo element info =
    (element ≡ public_key_info info) × AreDer (inner_key info.subject_public_key)

-- the element encodes this key, which is of the kind
abbrev pub IsKeyOf : KeyKind → DerElement → SubjectKey → Type 0
IsKeyOf kind element key = (kind_of_key key ≡ kind) × IsSubjectKey element key

-- a number for each kind of keys
abbrev pub key_kind_number : KeyKind → ℕ
key_kind_number kinds.Rsa = 0
key_kind_number kinds.Ec = 1
key_kind_number kinds.Ed = 2
key_kind_number kinds.Mldsa = 3

-- the kind of a key, and the octets of its element
abbrev pub key_octets : SubjectKey → List ℕ
key_octets key = key_kind_number (kind_of_key key) ∷ encoding (subject_public_key key)
