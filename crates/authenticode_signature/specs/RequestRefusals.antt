-- Why a token isn't read, and why a request isn't written, as errors of timestamps.
use Rattle.std.specs.Prelude.{◌≡◌}
use Rattle.der_core.specs.DerElement.{DerElement}
use Rattle.der_core.specs.Encoding.{IsShort}
use Rattle.der_core.specs.Rules.{OrMemory}
use Rattle.der_core.specs.declared.error.DerError.TheVariants as der
use Rattle.der_core.specs.Refusals.{Wraps}
use Rattle.key_core.specs.declared.element.Element.TheVariants as structures
use Rattle.x509_core.specs.declared.error.CertError.{CertError}
use Rattle.x509_core.specs.declared.error.CertError.TheVariants as certs
use Rattle.authenticode_core.specs.StampRefusal.{stamp_refusal, token_refusal}
use Rattle.authenticode_core.specs.declared.pkcs7_error.Pkcs7Error.{Pkcs7Error}
use Rattle.authenticode_core.specs.declared.timestamp_error.TimestampError.{TimestampError}
use Rattle.authenticode_core.specs.declared.timestamp_error.TimestampError.TheVariants as errors

-- the error reports a token that isn't read
abbrev pub IsRefusedToken : (Pkcs7Error → Type 0) → TimestampError → Type 0
IsRefusedToken Refuses e = (source : Pkcs7Error) × (e ≡ token_refusal source) × Refuses source

-- the error reports a request that isn't written
abbrev pub IsRefusedRequest : (CertError → Type 0) → TimestampError → Type 0
IsRefusedRequest = Wraps stamp_refusal

-- the error reports that contents of a request are longer than 4,294,967,295 octets, or out of
-- memory
abbrev pub IsTooLong : DerElement → TimestampError → Type 0
IsTooLong request =
    OrMemory errors.Memory (λ e.
    (e ≡ errors.Asn1DerError (certs.Asn1Serialization structures.TimestampRequest der.TooLong))
    × (IsShort request → ⊥))
