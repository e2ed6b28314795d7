-- The texts of errors.
use Rattle.std.specs.Prelude.{ℕ, List, ◌++◌, codes}
use Rattle.std.specs.Fmt.{decimal}
use Rattle.hex.specs.Hex.{encode_lower}
use Rattle.asn1_types.specs.Time.{time_text}
use Rattle.asn1_types.specs.declared.generalized_time.GeneralizedTime.{GeneralizedTime}
use Rattle.key_core.specs.ErrorText.{element_error_text, key_error_text}
use Rattle.key_core.specs.SignatureErrorText.{signature_error_text, key_id_error_text}
use Rattle.key_core.specs.declared.key_id.KeyIdGenError.{KeyIdGenError}
use Rattle.key_core.specs.declared.signature_error.SignatureError.{SignatureError}
use Rattle.name_types.specs.NameText.{name_text}
use Rattle.names_core.specs.Names.{sets_of}
use Rattle.x509_core.specs.CsrErrorText.{csr_error_text}
use Rattle.x509_core.specs.declared.error.Arg.{Arg}
use Rattle.x509_core.specs.declared.error.Arg.TheVariants as arguments
use Rattle.x509_core.specs.declared.error.CaChainError.{CaChainError}
use Rattle.x509_core.specs.declared.error.CaChainError.TheVariants as chain
use Rattle.x509_core.specs.declared.error.CertCause.{CertCause}
use Rattle.x509_core.specs.declared.error.CertCause.TheVariants as causes
use Rattle.x509_core.specs.declared.error.CertError.{CertError}
use Rattle.x509_core.specs.declared.error.CertError.TheVariants as errors
use Rattle.x509_core.specs.declared.error.ExtName.{ExtName}
use Rattle.x509_core.specs.declared.error.ExtName.TheVariants as names

-- the name of an extension
abbrev pub extension_text : ExtName → List ℕ
extension_text names.SubjectKeyIdentifier = codes "subject key identifier"
extension_text names.AuthorityKeyIdentifier = codes "authority key identifier"
extension_text names.BasicConstraints = codes "basic constraints"

-- the argument of a validator or a builder
abbrev pub argument_text : Arg → List ℕ
argument_text arguments.Now = codes "now"
argument_text arguments.Chain = codes "chain"
argument_text arguments.ValidFrom = codes "valid_from"
argument_text arguments.ValidTo = codes "valid_to"
argument_text arguments.IssuerInfos = codes "issuer_infos"
argument_text arguments.AuthorityKeyIdentifier = codes "authority_key_identifier"
argument_text arguments.SubjectInfos = codes "subject_infos"

-- that a certificate isn't valid yet, with its begin and the date that it is checked at
abbrev pub not_yet_valid_text : GeneralizedTime → GeneralizedTime → List ℕ
not_yet_valid_text not_before now =
    codes "certificate is not yet valid (not before: " ++ time_text not_before ++ codes ", now: "
    ++ time_text now ++ codes ")"

-- that a certificate has expired, with its end and the date that it is checked at
abbrev pub expired_text : GeneralizedTime → GeneralizedTime → List ℕ
expired_text not_after now =
    codes "certificate expired (not after: " ++ time_text not_after ++ codes ", now: "
    ++ time_text now ++ codes ")"

-- a signature that isn't accepted
abbrev pub bad_signature_text : SignatureError → List ℕ
bad_signature_text source = codes "signature error: " ++ signature_error_text source

-- a key without a key identifier
abbrev pub key_id_text : KeyIdGenError → List ℕ
key_id_text source = codes "key id generation error: " ++ key_id_error_text source

-- the expected and the actual key identifier, in hexadecimal
abbrev pub key_mismatch_text : List ℕ → List ℕ → List ℕ
key_mismatch_text expected actual =
    codes "authority key id doesn't match (expected: " ++ encode_lower expected ++ codes ", got: "
    ++ encode_lower actual ++ codes ")"

-- why certificates are no chain
abbrev pub chain_error_text : CaChainError → List ℕ
chain_error_text (chain.TooDeep id length) =
    codes "chain depth doesn't satisfy basic constraints extension: certificate '"
    ++ name_text (sets_of id) ++ codes "' has pathlen of " ++ decimal length
chain_error_text chain.NoRoot = codes "chain is missing a root certificate"
chain_error_text (chain.IssuerIsNotCA id) =
    codes "issuer certificate '" ++ name_text (sets_of id) ++ codes "' is not a CA"
chain_error_text (chain.AuthorityKeyIdMismatch expected actual) = key_mismatch_text expected actual
chain_error_text (chain.IssuerNameMismatch expected actual) =
    codes "issuer name doesn't match (expected: " ++ name_text (sets_of expected) ++ codes ", got: "
    ++ name_text (sets_of actual) ++ codes ")"

-- a cause has the text of the error with its name
abbrev pub cause_text : CertCause → List ℕ
cause_text (causes.Asn1Serialization element source) =
    element_error_text (codes "(ASN1) couldn't serialize ") element source
cause_text (causes.Signature source) = bad_signature_text source
cause_text (causes.KeyIdGen source) = key_id_text source
cause_text (causes.InvalidChain source) = codes "CA chain error: " ++ chain_error_text source
cause_text (causes.ExtensionNotFound name) = codes "extension not found: " ++ extension_text name
cause_text (causes.CertificateNotYetValid not_before now) = not_yet_valid_text not_before now
cause_text (causes.CertificateExpired not_after now) = expired_text not_after now

-- why a certificate is refused or not made
abbrev pub cert_error_text : CertError → List ℕ
cert_error_text (errors.CertGeneration source) =
    codes "couldn't generate certificate: " ++ cause_text source
cert_error_text (errors.InvalidCertificate id source) =
    codes "invalid certificate '" ++ name_text (sets_of id) ++ codes "': " ++ cause_text source
cert_error_text (errors.Asn1Serialization element source) =
    element_error_text (codes "(ASN1) couldn't serialize ") element source
cert_error_text (errors.Asn1Deserialization element source) =
    element_error_text (codes "(ASN1) couldn't deserialize ") element source
cert_error_text (errors.Signature source) = bad_signature_text source
cert_error_text (errors.KeyIdGen source) = key_id_text source
cert_error_text (errors.InvalidChain source) = codes "CA chain error: " ++ chain_error_text source
cert_error_text (errors.InvalidCsr source) = codes "CSR error: " ++ csr_error_text source
cert_error_text (errors.ExtensionNotFound name) =
    codes "extension not found: " ++ extension_text name
cert_error_text (errors.MissingBuilderArgument argument) =
    codes "missing required builder argument `" ++ argument_text argument ++ codes "`"
cert_error_text (errors.CertificateNotYetValid not_before now) = not_yet_valid_text not_before now
cert_error_text (errors.CertificateExpired not_after now) = expired_text not_after now
cert_error_text (errors.PrivateKeyToPublicKey source) =
    codes "failed to get public key from private key: " ++ key_error_text source
cert_error_text errors.Memory = codes "out of memory"
