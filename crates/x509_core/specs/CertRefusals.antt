-- Why a certificate isn't read or written, by why its element isn't.
use Rattle.der_core.specs.declared.error.DerError.{DerError}
use Rattle.der_core.specs.declared.error.DerError.TheVariants as der
use Rattle.der_core.specs.Refusals.{Wraps}
use Rattle.key_core.specs.declared.element.Element.{Element}
use Rattle.x509_core.specs.declared.error.CertError.{CertError}
use Rattle.x509_core.specs.declared.error.CertError.TheVariants as errors

-- out of memory is reported as such, any other cause with the structure
abbrev pub unread : Element → DerError → CertError
unread element der.Memory = errors.Memory
unread element source = errors.Asn1Deserialization element source

-- the same for an element that can't be written
abbrev pub unwritten : Element → DerError → CertError
unwritten element der.Memory = errors.Memory
unwritten element source = errors.Asn1Serialization element source

-- The error names this structure, and its cause refuses to read it.
abbrev pub IsUnreadCert : Element → (DerError → Type 0) → CertError → Type 0
IsUnreadCert element = Wraps (unread element)

-- The error names this structure, and its cause refuses to write it.
abbrev pub IsUnwrittenCert : Element → (DerError → Type 0) → CertError → Type 0
IsUnwrittenCert element = Wraps (unwritten element)
