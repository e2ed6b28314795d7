-- The errors of building a signature, and their texts.
use Rattle.std.specs.Prelude.{ℕ, List, codes}
use Rattle.der_core.specs.ErrorText.{der_error_text}
use Rattle.der_core.specs.declared.error.DerError.{DerError}
use Rattle.der_core.specs.declared.error.DerError.TheVariants as der
use Rattle.authenticode_core.specs.ErrorText.{content_error_text}
use Rattle.authenticode_core.specs.declared.error.AuthenticodeError.{AuthenticodeError}
use Rattle.authenticode_core.specs.declared.error.AuthenticodeError.TheVariants as signatures
use Rattle.authenticode_signature.specs.declared.builder_error.AuthenticodeSignatureBuilderError.{AuthenticodeSignatureBuilderError}
use Rattle.authenticode_signature.specs.declared.builder_error.AuthenticodeSignatureBuilderError.TheVariants as errors

-- the error for one of Authenticode signatures; out of memory is reported as such
abbrev pub builder_refusal : AuthenticodeError → AuthenticodeSignatureBuilderError
builder_refusal signatures.Memory = errors.Memory
builder_refusal e = errors.AuthenticodeError e

-- the error for one of an encoding; out of memory is reported as such
abbrev pub unwritten_in_builder : DerError → AuthenticodeSignatureBuilderError
unwritten_in_builder der.Memory = errors.Memory
unwritten_in_builder e = errors.Asn1DerError e

-- why a signature isn't built
abbrev pub builder_error_text : AuthenticodeSignatureBuilderError → List ℕ
builder_error_text errors.MissingDigestAlgorithm = codes "no digest algorithm is given"
builder_error_text errors.MissingContentInfo = codes "no content is given"
builder_error_text errors.MissingSigningKey = codes "no private key is given"
builder_error_text errors.MissingIssuerAndSerialNumber =
    codes "no issuer and no serial number are given"
builder_error_text errors.MissingCertificatesRequired = codes "no certificates are given"
builder_error_text (errors.AuthenticodeError e) = content_error_text e
builder_error_text (errors.Asn1DerError e) = der_error_text e
builder_error_text errors.Memory = codes "out of memory"
