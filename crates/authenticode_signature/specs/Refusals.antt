-- Why signed data isn't read or written, by why its element isn't.
use Rattle.der_core.specs.declared.error.DerError.{DerError}
use Rattle.der_core.specs.declared.error.DerError.TheVariants as der
use Rattle.der_core.specs.Refusals.{Wraps}
use Rattle.key_core.specs.declared.element.Element.TheVariants as structures
use Rattle.x509_core.specs.declared.error.CertError.TheVariants as certs
use Rattle.authenticode_core.specs.declared.error.AuthenticodeError.{AuthenticodeError}
use Rattle.authenticode_core.specs.declared.error.AuthenticodeError.TheVariants as authenticode
use Rattle.authenticode_core.specs.declared.pkcs7_error.Pkcs7Error.{Pkcs7Error}
use Rattle.authenticode_core.specs.declared.pkcs7_error.Pkcs7Error.TheVariants as errors

-- out of memory is reported as such, any other cause with the structure
abbrev pub unread : DerError → Pkcs7Error
unread der.Memory = errors.Memory
unread source = errors.Cert (certs.Asn1Deserialization structures.Pkcs7 source)

-- the same for signed data that can't be written
abbrev pub unwritten : DerError → Pkcs7Error
unwritten der.Memory = errors.Memory
unwritten source = errors.Cert (certs.Asn1Serialization structures.Pkcs7 source)

-- an error of signed data as one of Authenticode signatures
abbrev pub of_signed_data : Pkcs7Error → AuthenticodeError
of_signed_data (errors.Cert e) = authenticode.CertError e
of_signed_data errors.Memory = authenticode.Memory

-- the error reports that octets aren't read, and its cause refuses them
abbrev pub IsUnreadPkcs7 : (DerError → Type 0) → Pkcs7Error → Type 0
IsUnreadPkcs7 = Wraps unread

-- the error reports that signed data isn't written, and its cause refuses it
abbrev pub IsUnwrittenPkcs7 : (DerError → Type 0) → Pkcs7Error → Type 0
IsUnwrittenPkcs7 = Wraps unwritten

-- the error of a signature wraps such an error
abbrev pub WrapsSignedData : (Pkcs7Error → Type 0) → AuthenticodeError → Type 0
WrapsSignedData = Wraps of_signed_data
