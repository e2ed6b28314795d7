-- The names of certificate errors, as a program prints them.
use Rattle.std.specs.Prelude.{ℕ, List, ◌++◌, codes}
use Rattle.x509_core.specs.declared.error.CaChainError.{CaChainError}
use Rattle.x509_core.specs.declared.error.CaChainError.TheVariants as chain
use Rattle.x509_core.specs.declared.error.CertCause.{CertCause}
use Rattle.x509_core.specs.declared.error.CertCause.TheVariants as causes
use Rattle.x509_core.specs.declared.error.CertError.{CertError}
use Rattle.x509_core.specs.declared.error.CertError.TheVariants as errors

-- why certificates are no chain
abbrev pub chain_error_name : CaChainError → List ℕ
chain_error_name (chain.TooDeep id length) = codes "TooDeep"
chain_error_name chain.NoRoot = codes "NoRoot"
chain_error_name (chain.IssuerIsNotCA id) = codes "IssuerIsNotCA"
chain_error_name (chain.AuthorityKeyIdMismatch expected actual) = codes "AuthorityKeyIdMismatch"
chain_error_name (chain.IssuerNameMismatch expected actual) = codes "IssuerNameMismatch"

-- why a certificate is refused, with the name of the wrapped error
abbrev pub cause_name : CertCause → List ℕ
cause_name (causes.Asn1Serialization element source) = codes "Asn1Serialization"
cause_name (causes.Signature source) = codes "Signature"
cause_name (causes.KeyIdGen source) = codes "KeyIdGen"
cause_name (causes.InvalidChain source) = codes "InvalidChain:" ++ chain_error_name source
cause_name (causes.ExtensionNotFound name) = codes "ExtensionNotFound"
cause_name (causes.CertificateNotYetValid not_before now) = codes "CertificateNotYetValid"
cause_name (causes.CertificateExpired not_after now) = codes "CertificateExpired"

-- an error by its variant, and a refused certificate or chain with the name of its cause
abbrev pub cert_error_name : CertError → List ℕ
cert_error_name (errors.CertGeneration source) = codes "CertGeneration"
cert_error_name (errors.InvalidCertificate id source) =
    codes "InvalidCertificate:" ++ cause_name source
cert_error_name (errors.Asn1Serialization element source) = codes "Asn1Serialization"
cert_error_name (errors.Asn1Deserialization element source) = codes "Asn1Deserialization"
cert_error_name (errors.Signature source) = codes "Signature"
cert_error_name (errors.KeyIdGen source) = codes "KeyIdGen"
cert_error_name (errors.InvalidChain source) = codes "InvalidChain:" ++ chain_error_name source
cert_error_name (errors.InvalidCsr source) = codes "InvalidCsr"
cert_error_name (errors.ExtensionNotFound name) = codes "ExtensionNotFound"
cert_error_name (errors.MissingBuilderArgument argument) = codes "MissingBuilderArgument"
cert_error_name (errors.CertificateNotYetValid not_before now) = codes "CertificateNotYetValid"
cert_error_name (errors.CertificateExpired not_after now) = codes "CertificateExpired"
cert_error_name (errors.PrivateKeyToPublicKey source) = codes "PrivateKeyToPublicKey"
cert_error_name errors.Memory = codes "Memory"
