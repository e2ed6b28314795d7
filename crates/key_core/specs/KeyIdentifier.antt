-- Key identifiers: digests of a key's octets.
use Rattle.std.specs.Prelude.{◌≡◌, ◌≢◌, ◌⊎◌, ⊤, ℕ, List, [], ◌∷◌, ◌++◌, take}
use Rattle.der_core.specs.Encoding.{encoding, IsDer}
use Rattle.der_core.specs.Borrowed.{AreDer}
use Rattle.der_core.specs.Refusals.{RefusesInner}
use Rattle.der_core.specs.declared.error.DerError.{DerError}
use Rattle.der_core.specs.declared.error.DerError.TheVariants as der
use Rattle.asn1_types.specs.Values.{payload_of}
use Rattle.key_types.specs.PublicKeyInfo.{public_key_info, inner_key}
use Rattle.key_types.specs.RsaPublicKey.{rsa_public_key}
use Rattle.key_types.specs.SubjectKey.{kind_of_key}
use Rattle.key_types.specs.declared.key_info.SubjectPublicKeyInfo.{SubjectPublicKeyInfo}
use Rattle.key_types.specs.declared.public_key.RsaPublicKey.{RsaPublicKey}
use Rattle.key_types.specs.declared.subject_key.SubjectKey.{SubjectKey}
use Rattle.key_types.specs.declared.subject_key.SubjectKey.TheVariants as keys
use Rattle.sig_core.specs.Digest.{digest_of}
use Rattle.sig_core.specs.declared.hash.HashAlgorithm.TheVariants.{MD5}
use Rattle.key_core.specs.Pkcs1.{IsPkcs1Of}
use Rattle.key_core.specs.KeyRefusals.{IsUnwrittenKey, CantBeWritten}
use Rattle.key_core.specs.declared.element.Element.TheVariants as elements
use Rattle.key_core.specs.declared.error.KeyError.{KeyError}
use Rattle.key_core.specs.declared.error.KeyError.TheVariants as key_errors
use Rattle.key_core.specs.declared.key_id.KeyIdGenError.{KeyIdGenError}
use Rattle.key_core.specs.declared.key_id.KeyIdGenError.TheVariants as errors
use Rattle.key_core.specs.declared.key_id.KeyIdGenMethod.{KeyIdGenMethod}
use Rattle.key_core.specs.declared.key_id.KeyIdGenMethod.TheVariants.{SPKFullDER, SPKValueHashedLeftmost160}

-- The octets in the bits of a key (RFC 5280 4.1.2.7), without their tag, length and count of unused
-- bits: of RSA the encoding of its RSAPublicKey.
abbrev pub IsPayloadOf : SubjectKey → List ℕ → Type 0
IsPayloadOf (keys.Rsa key) octets = IsPkcs1Of (keys.Rsa key) octets
IsPayloadOf (keys.Ec bits) octets = octets ≡ payload_of bits
IsPayloadOf (keys.Ed bits) octets = octets ≡ payload_of bits
IsPayloadOf (keys.Mldsa bits) octets = octets ≡ payload_of bits

-- the octets encode the whole SubjectPublicKeyInfo of a key, which can be written
abbrev pub IsWholeOf : SubjectPublicKeyInfo → List ℕ → Type 0
IsWholeOf info octets =
    (octets ≡ encoding (public_key_info info)) × IsDer (public_key_info info)
    × AreDer (inner_key info.subject_public_key)

-- The digest of the whole SubjectPublicKeyInfo, or the first 160 bits of the digest of the bits
-- (RFC 5280 4.2.1.2, RFC 7093 2).
abbrev pub IsKeyIdentifier : KeyIdGenMethod → SubjectPublicKeyInfo → List ℕ → Type 0
IsKeyIdentifier (SPKFullDER hash) info id =
    (octets : List ℕ) × IsWholeOf info octets × (id ≡ digest_of hash octets)
IsKeyIdentifier (SPKValueHashedLeftmost160 hash) info id =
    (octets : List ℕ) × IsPayloadOf info.subject_public_key octets × (hash ≢ MD5)
    × (id ≡ take 20 (digest_of hash octets))

-- why there is no digest of the SubjectPublicKeyInfo: it can't be written
abbrev pub RefusesWhole : SubjectPublicKeyInfo → KeyIdGenError → Type 0
RefusesWhole info (errors.InvalidKey source) =
    IsUnwrittenKey elements.SubjectPublicKeyInfo
    (RefusesInner (inner_key info.subject_public_key ++ public_key_info info ∷ [])) source
    × (source ≢ key_errors.Memory)
RefusesWhole info (errors.Asn1Serialization element source) = ⊥
RefusesWhole info errors.Memory = ⊤

-- why there is no digest of the bits: the RSAPublicKey in them can't be written
abbrev pub RefusesPayload : SubjectKey → KeyIdGenError → Type 0
RefusesPayload key (errors.InvalidKey source) = ⊥
RefusesPayload key (errors.Asn1Serialization element source) =
    (rsa : RsaPublicKey) × (key ≡ keys.Rsa rsa) × (element ≡ elements.RsaPublicKey)
    × CantBeWritten (rsa_public_key rsa) source
RefusesPayload key errors.Memory = ⊤

-- out of memory is reported as such, any other cause with RSAPublicKey
abbrev pub payload_refusal : DerError → KeyIdGenError
payload_refusal der.Memory = errors.Memory
payload_refusal source = errors.Asn1Serialization elements.RsaPublicKey source

-- Why a key has no key identifier by a method. An MD5 digest is shorter than 160 bits.
abbrev pub RefusesKeyIdentifier : KeyIdGenMethod → SubjectPublicKeyInfo → KeyIdGenError → Type 0
RefusesKeyIdentifier (SPKFullDER hash) info e = RefusesWhole info e
RefusesKeyIdentifier (SPKValueHashedLeftmost160 hash) info e =
    ((hash ≡ MD5)
    × (e ≡ errors.InvalidKey
    (key_errors.UnsupportedAlgorithm (kind_of_key info.subject_public_key))))
    ⊎ ((hash ≢ MD5) × RefusesPayload info.subject_public_key e)

-- a key error as one of its key identifier: out of memory is reported as such
abbrev pub key_id_refusal : KeyError → KeyIdGenError
key_id_refusal key_errors.Memory = errors.Memory
key_id_refusal source = errors.InvalidKey source
