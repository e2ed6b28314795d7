-- The texts of errors.
use Rattle.std.specs.Prelude.{ℕ, List, ◌++◌, codes, decimal}
use Rattle.std.specs.Fmt.{signed_decimal}
use Rattle.asn1_types.specs.Values.{integer_contents}
use Rattle.der_core.specs.ErrorText.{der_error_text}
use Rattle.hex.specs.Hex.{encode_lower}
use Rattle.key_core.specs.SignatureErrorText.{signature_error_text}
use Rattle.name_types.specs.NameText.{name_text}
use Rattle.names_core.specs.Names.{sets_of}
use Rattle.names_core.specs.declared.name.DirectoryName.{DirectoryName}
use Rattle.sig_core.specs.ErrorText.{unsupported_hash_text, unsupported_algorithm_text}
use Rattle.wincert_core.specs.ErrorText.{error_text}
use Rattle.x509_core.specs.ErrorText.{cert_error_text}
use Rattle.authenticode_core.specs.declared.ctl_error.CtlError.{CtlError}
use Rattle.authenticode_core.specs.declared.ctl_error.CtlError.TheVariants as ctl
use Rattle.authenticode_core.specs.declared.error.AuthenticodeError.{AuthenticodeError}
use Rattle.authenticode_core.specs.declared.error.AuthenticodeError.TheVariants as contents
use Rattle.authenticode_core.specs.declared.error.CheckError.{CheckError}
use Rattle.authenticode_core.specs.declared.error.CheckError.TheVariants as check
use Rattle.authenticode_core.specs.declared.pkcs7_error.Pkcs7Error.{Pkcs7Error}
use Rattle.authenticode_core.specs.declared.pkcs7_error.Pkcs7Error.TheVariants as pkcs7
use Rattle.authenticode_core.specs.declared.timestamp_error.TimestampError.{TimestampError}
use Rattle.authenticode_core.specs.declared.timestamp_error.TimestampError.TheVariants as stamps

-- the text for a digest of the file that isn't the expected one
abbrev pub file_mismatch_text : List ℕ → List ℕ → List ℕ
file_mismatch_text actual expected =
    codes "the signature is for a file with the digest " ++ encode_lower actual
    ++ codes ", but that of the file is " ++ encode_lower expected

-- the text for a message digest that isn't that of the content
abbrev pub mismatch_text : List ℕ → List ℕ → List ℕ
mismatch_text actual expected =
    codes "the signed message digest is " ++ encode_lower actual
    ++ codes ", but that of the content is " ++ encode_lower expected

-- the text for an issuer, and a serial number given as contents octets, that no certificate has
abbrev pub unnamed_text : DirectoryName → List ℕ → List ℕ
unnamed_text issuer serial_number =
    codes "the signed data has no certificate of the issuer '" ++ name_text (sets_of issuer)
    ++ codes "' with the serial number " ++ encode_lower serial_number

-- why signed data isn't read or written
abbrev pub pkcs7_error_text : Pkcs7Error → List ℕ
pkcs7_error_text (pkcs7.Cert e) = cert_error_text e
pkcs7_error_text pkcs7.Memory = codes "out of memory"

-- why a time stamp isn't obtained or added
abbrev pub timestamp_error_text : TimestampError → List ℕ
timestamp_error_text (stamps.Pkcs7Error e) = pkcs7_error_text e
timestamp_error_text (stamps.Asn1DerError e) = cert_error_text e
timestamp_error_text stamps.TimestampTokenEmpty = codes "the token or the signed data has no signer"
timestamp_error_text stamps.Memory = codes "out of memory"

-- why octets aren't read as a trust list, or have no entries that can be used
abbrev pub ctl_error_text : CtlError → List ℕ
ctl_error_text (ctl.FailedToParseCtl e) = pkcs7_error_text e
ctl_error_text ctl.NoContent = codes "the trust list has no content"
ctl_error_text ctl.IncorrectContentValue = codes "the content of the trust list is another one"
ctl_error_text ctl.MalformedEntry = codes "an entry of the trust list is malformed"
ctl_error_text ctl.Memory = codes "out of memory"

-- why signed data is refused
abbrev pub content_error_text : AuthenticodeError → List ℕ
content_error_text (contents.CertError e) = cert_error_text e
content_error_text (contents.IncorrectVersion expected got) =
    codes "the version of the signed data is " ++ decimal got
    ++ codes ", and not " ++ decimal expected
content_error_text (contents.MultipleSignerInfo count) =
    codes "the signed data has " ++ decimal count ++ codes " signers, and not one"
content_error_text (contents.IncorrectDigestAlgorithmsCount count) =
    codes "the signed data has " ++ decimal count ++ codes " digest algorithms, and not one"
content_error_text contents.NoEncapsulatedContentInfo = codes "the signed data has no content"
content_error_text contents.NoSpcIndirectDataContent =
    codes "what is signed is no SpcIndirectDataContent"
content_error_text contents.DigestAlgorithmMismatch =
    codes "the signed data names several digest algorithms"
content_error_text (contents.FileHashMismatch actual expected) = file_mismatch_text actual expected
content_error_text contents.IncorrectSignerIdentifier =
    codes "the signer is named by the identifier of a key, and not by issuer and serial number"
content_error_text (contents.NoCertificatesAssociatedWithIssuerAndSerialNumber issuer number) =
    unnamed_text issuer (integer_contents number)
content_error_text (contents.UnsupportedAlgorithmError e) = unsupported_algorithm_text
content_error_text (contents.SignatureError e) = codes "signature error: " ++ signature_error_text e
content_error_text contents.NoMessageDigest =
    codes "no message digest is among the signed attributes"
content_error_text (contents.UnsupportedHashAlgorithmError e) = unsupported_hash_text e
content_error_text (contents.HashMismatch actual expected) = mismatch_text actual expected
content_error_text contents.NoEKUCodeSigning =
    codes "the certificate of the signer is not one for code signing"
content_error_text contents.MissingExpectedFileHash = codes "no digest of the file is given"
content_error_text (contents.InvalidTimestampCert e) =
    codes "certificate of the time stamp: " ++ cert_error_text e
content_error_text (contents.CtlError e) = ctl_error_text e
content_error_text contents.CAIsNotTrusted = codes "the CA is not on the trust list"
content_error_text contents.CaCertificateRevoked = codes "the trust list revokes the CA"
content_error_text (contents.CaCertificateExpired not_after now) =
    codes "the CA was on the trust list until " ++ signed_decimal not_after
    ++ codes ", and it is " ++ signed_decimal now ++ codes " (seconds since 1601)"
content_error_text (contents.CaCertificateNotYetValid not_before now) =
    codes "the CA is on the trust list from " ++ signed_decimal not_before
    ++ codes " on, and it is " ++ signed_decimal now ++ codes " (seconds since 1601)"
content_error_text contents.ProgramNameCharSet =
    codes "the name of the program has a character past U+FFFF"
content_error_text contents.NoCertificates = codes "the signed data has no certificates"
content_error_text (contents.Asn1DerError e) = der_error_text e
content_error_text (contents.TimestampError e) = timestamp_error_text e
content_error_text contents.Memory = codes "out of memory"

-- why a signature file is refused
abbrev pub check_error_text : CheckError → List ℕ
check_error_text (check.Win e) = error_text e
check_error_text (check.Authenticode e) = content_error_text e
check_error_text check.Memory = codes "out of memory"
