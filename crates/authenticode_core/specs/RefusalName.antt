-- The printed names of refusals.
use Rattle.std.specs.Prelude.{ℕ, List, codes}
use Rattle.wincert_core.specs.declared.error.WinCertificateError.{WinCertificateError}
use Rattle.wincert_core.specs.declared.error.WinCertificateError.TheVariants as win
use Rattle.x509_core.specs.ErrorName.{cert_error_name}
use Rattle.authenticode_core.specs.declared.ctl_error.CtlError.{CtlError}
use Rattle.authenticode_core.specs.declared.ctl_error.CtlError.TheVariants as ctl
use Rattle.authenticode_core.specs.declared.error.AuthenticodeError.{AuthenticodeError}
use Rattle.authenticode_core.specs.declared.error.AuthenticodeError.TheVariants as contents
use Rattle.authenticode_core.specs.declared.error.CheckError.{CheckError}
use Rattle.authenticode_core.specs.declared.error.CheckError.TheVariants as check

-- the name of a refusal of the header
abbrev pub header_refusal_name : WinCertificateError → List ℕ
header_refusal_name (win.WrongRevisionValue got) = codes "WrongRevisionValue"
header_refusal_name (win.WrongCertificateType got) = codes "WrongCertificateType"
header_refusal_name (win.WrongLength minimum got) = codes "WrongLength"
header_refusal_name win.CertificateDataIsEmpty = codes "CertificateDataIsEmpty"
header_refusal_name (win.Io stated got) = codes "Io"
header_refusal_name win.TooLong = codes "TooLong"
header_refusal_name win.Memory = codes "Memory"

-- the name of the variant
abbrev pub variant_name : AuthenticodeError → List ℕ
variant_name (contents.CertError e) = codes "CertError"
variant_name (contents.IncorrectVersion expected got) = codes "IncorrectVersion"
variant_name (contents.MultipleSignerInfo count) = codes "MultipleSignerInfo"
variant_name (contents.IncorrectDigestAlgorithmsCount count) =
    codes "IncorrectDigestAlgorithmsCount"
variant_name contents.NoEncapsulatedContentInfo = codes "NoEncapsulatedContentInfo"
variant_name contents.NoSpcIndirectDataContent = codes "NoSpcIndirectDataContent"
variant_name contents.DigestAlgorithmMismatch = codes "DigestAlgorithmMismatch"
variant_name (contents.FileHashMismatch actual expected) = codes "FileHashMismatch"
variant_name contents.IncorrectSignerIdentifier = codes "IncorrectSignerIdentifier"
variant_name (contents.NoCertificatesAssociatedWithIssuerAndSerialNumber issuer serial_number) =
    codes "NoCertificatesAssociatedWithIssuerAndSerialNumber"
variant_name (contents.UnsupportedAlgorithmError e) = codes "UnsupportedAlgorithmError"
variant_name (contents.SignatureError e) = codes "SignatureError"
variant_name contents.NoMessageDigest = codes "NoMessageDigest"
variant_name (contents.UnsupportedHashAlgorithmError e) = codes "UnsupportedHashAlgorithmError"
variant_name (contents.HashMismatch actual expected) = codes "HashMismatch"
variant_name contents.NoEKUCodeSigning = codes "NoEKUCodeSigning"
variant_name contents.MissingExpectedFileHash = codes "MissingExpectedFileHash"
variant_name (contents.InvalidTimestampCert e) = codes "InvalidTimestampCert"
variant_name (contents.CtlError e) = codes "CtlError"
variant_name contents.CAIsNotTrusted = codes "CAIsNotTrusted"
variant_name contents.CaCertificateRevoked = codes "CaCertificateRevoked"
variant_name (contents.CaCertificateExpired not_after now) = codes "CaCertificateExpired"
variant_name (contents.CaCertificateNotYetValid not_before now) = codes "CaCertificateNotYetValid"
variant_name contents.ProgramNameCharSet = codes "ProgramNameCharSet"
variant_name contents.NoCertificates = codes "NoCertificates"
variant_name (contents.Asn1DerError e) = codes "Asn1DerError"
variant_name (contents.TimestampError e) = codes "TimestampError"
variant_name contents.Memory = codes "Memory"

-- the name of an error of a trust list
abbrev pub ctl_error_name : CtlError → List ℕ
ctl_error_name (ctl.FailedToParseCtl e) = codes "FailedToParseCtl"
ctl_error_name ctl.NoContent = codes "NoContent"
ctl_error_name ctl.IncorrectContentValue = codes "IncorrectContentValue"
ctl_error_name ctl.MalformedEntry = codes "MalformedEntry"
ctl_error_name ctl.Memory = codes "Memory"

-- the name of a refusal of the signed data: that of the variant, or of the certificate or trust
-- list error that it wraps
abbrev pub content_refusal_name : AuthenticodeError → List ℕ
content_refusal_name (contents.CertError e) = cert_error_name e
content_refusal_name (contents.CtlError e) = ctl_error_name e
content_refusal_name e = variant_name e

-- the name of a refusal
abbrev pub refusal_name : CheckError → List ℕ
refusal_name (check.Win e) = header_refusal_name e
refusal_name (check.Authenticode e) = content_refusal_name e
refusal_name check.Memory = codes "Memory"
