-- Errors of certificates and of signed data as errors of signed data and of time stamps.
use Rattle.x509_core.specs.declared.error.CertError.{CertError}
use Rattle.x509_core.specs.declared.error.CertError.TheVariants as certs
use Rattle.authenticode_core.specs.declared.pkcs7_error.Pkcs7Error.{Pkcs7Error}
use Rattle.authenticode_core.specs.declared.pkcs7_error.Pkcs7Error.TheVariants as pkcs7
use Rattle.authenticode_core.specs.declared.timestamp_error.TimestampError.{TimestampError}
use Rattle.authenticode_core.specs.declared.timestamp_error.TimestampError.TheVariants as stamps

-- the error of signed data for one of certificates; out of memory is reported as such, here and
-- below
abbrev pub signed_data_refusal : CertError → Pkcs7Error
signed_data_refusal certs.Memory = pkcs7.Memory
signed_data_refusal e = pkcs7.Cert e

-- the error of a time stamp for one of certificates
abbrev pub stamp_refusal : CertError → TimestampError
stamp_refusal certs.Memory = stamps.Memory
stamp_refusal e = stamps.Asn1DerError e

-- the error of a time stamp for one of signed data
abbrev pub token_refusal : Pkcs7Error → TimestampError
token_refusal pkcs7.Memory = stamps.Memory
token_refusal e = stamps.Pkcs7Error e
