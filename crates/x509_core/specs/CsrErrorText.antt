-- The texts of errors of certification requests.
use Rattle.std.specs.Prelude.{ℕ, List, ◌++◌, codes}
use Rattle.key_core.specs.ErrorText.{element_error_text, key_error_text}
use Rattle.key_core.specs.SignatureErrorText.{signature_error_text}
use Rattle.x509_core.specs.declared.csr_error.CsrError.{CsrError}
use Rattle.x509_core.specs.declared.csr_error.CsrError.TheVariants as errors

-- why a request is refused or not made
abbrev pub csr_error_text : CsrError → List ℕ
csr_error_text (errors.Asn1Serialization element source) =
    element_error_text (codes "(ASN1) couldn't serialize ") element source
csr_error_text (errors.Asn1Deserialization element source) =
    element_error_text (codes "(ASN1) couldn't deserialize ") element source
csr_error_text (errors.Signature source) = codes "signature error: " ++ signature_error_text source
csr_error_text (errors.PrivateKeyToPublicKey source) =
    codes "failed to get public key from private key: " ++ key_error_text source
csr_error_text errors.Memory = codes "out of memory"
