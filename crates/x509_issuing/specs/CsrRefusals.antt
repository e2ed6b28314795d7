-- Why a request isn't read, written, accepted or made, by the step that fails.
use Rattle.der_core.specs.declared.error.DerError.{DerError}
use Rattle.der_core.specs.declared.error.DerError.TheVariants as der
use Rattle.der_core.specs.Refusals.{Wraps}
use Rattle.key_core.specs.declared.element.Element.{Element}
use Rattle.key_core.specs.declared.error.KeyError.{KeyError}
use Rattle.key_core.specs.declared.error.KeyError.TheVariants as key
use Rattle.key_core.specs.declared.signature_error.SignatureError.{SignatureError}
use Rattle.key_core.specs.declared.signature_error.SignatureError.TheVariants as signature
use Rattle.x509_core.specs.declared.csr_error.CsrError.{CsrError}
use Rattle.x509_core.specs.declared.csr_error.CsrError.TheVariants as errors

-- out of memory is reported as such, any other cause with the structure
abbrev pub unread_csr : Element → DerError → CsrError
unread_csr element der.Memory = errors.Memory
unread_csr element source = errors.Asn1Deserialization element source

-- the same for an element that can't be written
abbrev pub unwritten_csr : Element → DerError → CsrError
unwritten_csr element der.Memory = errors.Memory
unwritten_csr element source = errors.Asn1Serialization element source

-- the error for one of a signature; out of memory is reported as such
abbrev pub unsigned : SignatureError → CsrError
unsigned signature.Memory = errors.Memory
unsigned source = errors.Signature source

-- the error for a private key without a public one; out of memory is reported as such
abbrev pub keyless : KeyError → CsrError
keyless key.Memory = errors.Memory
keyless source = errors.PrivateKeyToPublicKey source

-- The error names this structure, and its cause refuses to read it.
abbrev pub IsUnreadCsr : Element → (DerError → Type 0) → CsrError → Type 0
IsUnreadCsr element = Wraps (unread_csr element)

-- The error names this structure, and its cause refuses to write it.
abbrev pub IsUnwrittenCsr : Element → (DerError → Type 0) → CsrError → Type 0
IsUnwrittenCsr element = Wraps (unwritten_csr element)

-- The error wraps one of a signature, whose cause refuses it.
abbrev pub IsUnsigned : (SignatureError → Type 0) → CsrError → Type 0
IsUnsigned = Wraps unsigned

-- The error wraps one of a private key, whose cause refuses its public key.
abbrev pub IsKeyless : (KeyError → Type 0) → CsrError → Type 0
IsKeyless = Wraps keyless
