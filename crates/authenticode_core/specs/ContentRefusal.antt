-- How an error becomes one of signed data or of a signature file.
use Rattle.asn1_types.specs.declared.error.CharSetError.{CharSetError}
use Rattle.asn1_types.specs.declared.error.CharSetError.TheVariants as texts
use Rattle.der_core.specs.declared.error.DerError.{DerError}
use Rattle.der_core.specs.declared.error.DerError.TheVariants as der
use Rattle.key_core.specs.declared.signature_error.SignatureError.{SignatureError}
use Rattle.key_core.specs.declared.signature_error.SignatureError.TheVariants as signatures
use Rattle.wincert_core.specs.declared.error.WinCertificateError.{WinCertificateError}
use Rattle.wincert_core.specs.declared.error.WinCertificateError.TheVariants as headers
use Rattle.x509_core.specs.declared.error.CertError.{CertError}
use Rattle.x509_core.specs.declared.error.CertError.TheVariants as certs
use Rattle.authenticode_core.specs.declared.ctl_error.CtlError.{CtlError}
use Rattle.authenticode_core.specs.declared.ctl_error.CtlError.TheVariants as ctl
use Rattle.authenticode_core.specs.declared.error.AuthenticodeError.{AuthenticodeError}
use Rattle.authenticode_core.specs.declared.error.AuthenticodeError.TheVariants as contents
use Rattle.authenticode_core.specs.declared.error.CheckError.{CheckError}
use Rattle.authenticode_core.specs.declared.error.CheckError.TheVariants.{Authenticode, Win, Memory}

-- the error for one of a header; out of memory is reported as such, here and below
abbrev pub of_header : WinCertificateError → CheckError
of_header headers.Memory = Memory
of_header e = Win e

-- the error for one of signed data
abbrev pub of_content : AuthenticodeError → CheckError
of_content contents.Memory = Memory
of_content e = Authenticode e

-- the error for one of certificates
abbrev pub of_certificates : CertError → AuthenticodeError
of_certificates certs.Memory = contents.Memory
of_certificates e = contents.CertError e

-- the error for one of signatures
abbrev pub of_signatures : SignatureError → AuthenticodeError
of_signatures signatures.Memory = contents.Memory
of_signatures e = contents.SignatureError e

-- the error for one of a trust list
abbrev pub of_ctl : CtlError → AuthenticodeError
of_ctl ctl.Memory = contents.Memory
of_ctl e = contents.CtlError e

-- the error for one of an encoding
abbrev pub of_der : DerError → AuthenticodeError
of_der der.Memory = contents.Memory
of_der e = contents.Asn1DerError e

-- the error for one of a text
abbrev pub of_char_set : CharSetError → AuthenticodeError
of_char_set texts.Memory = contents.Memory
of_char_set texts.CharSet = contents.ProgramNameCharSet
