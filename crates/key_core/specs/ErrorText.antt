-- The texts of errors.
use Rattle.std.specs.Prelude.{ℕ, List, ◌++◌, codes}
use Rattle.der_core.specs.declared.error.DerError.{DerError}
use Rattle.der_core.specs.ErrorText.{der_error_text}
use Rattle.key_types.specs.declared.key_kind.KeyKind.{KeyKind}
use Rattle.key_types.specs.declared.key_kind.KeyKind.TheVariants as kinds
use Rattle.key_core.specs.declared.element.Element.{Element}
use Rattle.key_core.specs.declared.element.Element.TheVariants as elements
use Rattle.key_core.specs.declared.error.KeyContext.{KeyContext}
use Rattle.key_core.specs.declared.error.KeyContext.TheVariants as contexts
use Rattle.key_core.specs.declared.error.KeyError.{KeyError}
use Rattle.key_core.specs.declared.error.KeyError.TheVariants as errors

-- the name of a structure
abbrev pub element_text : Element → List ℕ
element_text elements.Certificate = codes "x509 certificate"
element_text elements.TbsCertificate = codes "tbs certificate"
element_text elements.Request = codes "certification request"
element_text elements.RequestInfo = codes "certification request info"
element_text elements.Pkcs7 = codes "pkcs7 certificate"
element_text elements.TimestampRequest = codes "TimestampRequest"
element_text elements.PrivateKeyInfo = codes "private key info (pkcs8)"
element_text elements.RsaPrivateKey = codes "rsa private key"
element_text elements.EcPrivateKey = codes "ec private key"
element_text elements.SubjectPublicKeyInfo = codes "subject public key info"
element_text elements.RsaPublicKey = codes "rsa public key"

-- why a key isn't available
abbrev pub context_text : KeyContext → List ℕ
context_text contexts.NotRsa = codes "the key is of another kind than RSA"
context_text contexts.NotEc = codes "the key is of another kind than one of an elliptic curve"
context_text contexts.NotEd = codes "the key is of another kind than one of a curve 25519 or 448"
context_text contexts.CurveParameters = codes "the parameters name no curve"
context_text contexts.CurveMissing = codes "the key names no curve"
context_text contexts.CoordinateSize =
    codes "a coordinate hasn't as many octets as the field of the curve"
context_text contexts.SecretSize =
    codes "the secret hasn't as many octets as its curve or algorithm asks for"
context_text contexts.UnsupportedCurve = codes "the curve isn't supported"
context_text contexts.UnsupportedEd = codes "the algorithm on a curve 25519 or 448 isn't supported"
context_text contexts.PublicKeyMissing = codes "the private key has no public key"
context_text contexts.SchemeRefused = codes "the signature scheme derives no public key"

-- the name of a kind of keys
abbrev pub kind_text : KeyKind → List ℕ
kind_text kinds.Rsa = codes "RSA"
kind_text kinds.Ec = codes "EC"
kind_text kinds.Ed = codes "ED"
kind_text kinds.Mldsa = codes "ML-DSA"

-- an element that isn't read or written: which one, and why
abbrev pub element_error_text : (head : List ℕ) → Element → DerError → List ℕ
element_error_text head element source =
    head ++ element_text element ++ codes ": " ++ der_error_text source

-- why a key isn't read, made or written
abbrev pub key_error_text : KeyError → List ℕ
key_error_text (errors.Asn1Serialization element source) =
    element_error_text (codes "(ASN1) couldn't serialize ") element source
key_error_text (errors.Asn1Deserialization element source) =
    element_error_text (codes "(ASN1) couldn't deserialize ") element source
key_error_text (errors.Rsa context) = codes "RSA error: " ++ context_text context
key_error_text (errors.EC context) = codes "EC error: " ++ context_text context
key_error_text (errors.ED context) = codes "ED error: " ++ context_text context
key_error_text (errors.UnsupportedAlgorithm algorithm) =
    codes "unsupported algorithm: " ++ kind_text algorithm
key_error_text errors.Memory = codes "out of memory"
