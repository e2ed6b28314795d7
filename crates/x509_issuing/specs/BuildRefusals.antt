-- The errors of building a certificate, by the step that fails.
use Rattle.der_core.specs.declared.error.DerError.{DerError}
use Rattle.der_core.specs.declared.error.DerError.TheVariants as der
use Rattle.key_core.specs.declared.element.Element.TheVariants as elements
use Rattle.key_core.specs.declared.error.KeyError.{KeyError}
use Rattle.key_core.specs.declared.error.KeyError.TheVariants as key
use Rattle.key_core.specs.declared.key_id.KeyIdGenError.{KeyIdGenError}
use Rattle.key_core.specs.declared.key_id.KeyIdGenError.TheVariants as key_id
use Rattle.key_core.specs.declared.signature_error.SignatureError.{SignatureError}
use Rattle.key_core.specs.declared.signature_error.SignatureError.TheVariants as signature
use Rattle.x509_core.specs.declared.csr_error.CsrError.{CsrError}
use Rattle.x509_core.specs.declared.csr_error.CsrError.TheVariants as csr
use Rattle.x509_core.specs.declared.error.CertCause.TheVariants as causes
use Rattle.x509_core.specs.declared.error.CertError.{CertError}
use Rattle.x509_core.specs.declared.error.CertError.TheVariants as errors

-- Out of memory is reported as such, any other cause with what was being made.

-- a private key has no public key
abbrev pub no_half : KeyError → CertError
no_half key.Memory = errors.Memory
no_half source = errors.PrivateKeyToPublicKey source

-- a request is refused
abbrev pub no_request : CsrError → CertError
no_request csr.Memory = errors.Memory
no_request source = errors.InvalidCsr source

-- a key has no key identifier
abbrev pub no_key_id : KeyIdGenError → CertError
no_key_id key_id.Memory = errors.Memory
no_key_id source = errors.CertGeneration (causes.KeyIdGen source)

-- the TBSCertificate isn't written
abbrev pub no_octets : DerError → CertError
no_octets der.Memory = errors.Memory
no_octets source = errors.CertGeneration (causes.Asn1Serialization elements.TbsCertificate source)

-- there is no signature
abbrev pub no_signature : SignatureError → CertError
no_signature signature.Memory = errors.Memory
no_signature source = errors.CertGeneration (causes.Signature source)
