-- The texts of errors of signatures and key identifiers.
use Rattle.std.specs.Prelude.{ℕ, List, ◌++◌, codes}
use Rattle.asn1_types.specs.ObjectIdentifier.{dotted}
use Rattle.asn1_types.specs.Values.{arcs_of}
use Rattle.sig_core.specs.Digest.{digest_name}
use Rattle.key_core.specs.EcCurve.{curve_text}
use Rattle.key_core.specs.ErrorText.{element_error_text, key_error_text}
use Rattle.key_core.specs.declared.key_id.KeyIdGenError.{KeyIdGenError}
use Rattle.key_core.specs.declared.key_id.KeyIdGenError.TheVariants as id_errors
use Rattle.key_core.specs.declared.signature_error.SigContext.{SigContext}
use Rattle.key_core.specs.declared.signature_error.SigContext.TheVariants as contexts
use Rattle.key_core.specs.declared.signature_error.SignatureError.{SignatureError}
use Rattle.key_core.specs.declared.signature_error.SignatureError.TheVariants as errors
use Rattle.key_core.specs.declared.signature_error.Unsupported.{Unsupported}
use Rattle.key_core.specs.declared.signature_error.Unsupported.TheVariants as unsupported

-- why a signature can't be made or verified
abbrev pub sig_context_text : SigContext → List ℕ
sig_context_text contexts.SchemeRefused = codes "the signature scheme refused"
sig_context_text contexts.Malformed = codes "the signature is malformed"
sig_context_text contexts.HashNotSupported = codes "the digest algorithm isn't supported"
sig_context_text contexts.KeySize = codes "the key hasn't 32 octets"
sig_context_text contexts.NotForSigning = codes "the key isn't one for signatures"

-- the name of an algorithm that isn't used
abbrev pub unsupported_text : Unsupported → List ℕ
unsupported_text (unsupported.Oid oid) = dotted (arcs_of oid)
unsupported_text (unsupported.Hash hash) = digest_name hash
unsupported_text (unsupported.Pairing curve hash) =
    curve_text curve ++ codes " with " ++ digest_name hash

-- why a signature isn't made or accepted
abbrev pub signature_error_text : SignatureError → List ℕ
signature_error_text (errors.Key source) = codes "Key error: " ++ key_error_text source
signature_error_text (errors.Rsa context) = codes "RSA error: " ++ sig_context_text context
signature_error_text (errors.Ec context) = codes "EC error: " ++ sig_context_text context
signature_error_text (errors.Ed context) = codes "ED error: " ++ sig_context_text context
signature_error_text errors.BadSignature = codes "invalid signature"
signature_error_text (errors.UnsupportedAlgorithm algorithm) =
    codes "unsupported algorithm: " ++ unsupported_text algorithm
signature_error_text errors.Memory = codes "out of memory"

-- why a key has no key identifier
abbrev pub key_id_error_text : KeyIdGenError → List ℕ
key_id_error_text (id_errors.InvalidKey source) = codes "invalid key: " ++ key_error_text source
key_id_error_text (id_errors.Asn1Serialization element source) =
    element_error_text (codes "(asn1) couldn't serialize ") element source
key_id_error_text id_errors.Memory = codes "out of memory"
