-- When the signature of a request is one by its own key, and why it isn't (RFC 2986 4.2).
use Rattle.std.specs.Prelude.{◌⊎◌}
use Rattle.der_core.specs.Encoding.{encoding}
use Rattle.asn1_types.specs.Values.{payload_of}
use Rattle.key_core.specs.SignatureAlgorithm.{NamesSignature, IsUnnamed}
use Rattle.key_core.specs.SignatureRules.{RefusesSignatureBy}
use Rattle.key_core.specs.Verifying.{Judge, Accepts, verify_rules}
use Rattle.key_core.specs.declared.signature_algorithm.SignatureAlgorithm.{SignatureAlgorithm}
use Rattle.key_core.specs.declared.signature_error.SignatureError.{SignatureError}
use Rattle.x509_issuing.specs.OwnedRequest.{KeptRequest}

-- With the algorithm that the request names, the scheme accepts its signature over the raw
-- CertificationRequestInfo, by its own key.
pub record IsSelfSigned (judge : Judge) (csr : KeptRequest) : Type 0 where
  pub algorithm : SignatureAlgorithm
  pub named : NamesSignature csr.request.signature_algorithm algorithm
  pub accepted : Accepts judge algorithm
      csr.request.certification_request_info.subject_public_key_info (encoding csr.info)
      (payload_of csr.request.signature)

-- The request names this algorithm, and its signature breaks a rule of it; this error reports the
-- first one.
pub record IsMissigned (judge : Judge) (csr : KeptRequest) (e : SignatureError) : Type 0 where
  pub algorithm : SignatureAlgorithm
  pub named : NamesSignature csr.request.signature_algorithm algorithm
  pub refused : RefusesSignatureBy
      (verify_rules judge algorithm csr.request.certification_request_info.subject_public_key_info
      (encoding csr.info) (payload_of csr.request.signature)) e

-- why it isn't one by its own key: the request names no algorithm, or the signature breaks a rule
abbrev pub RefusesSelfSigned : Judge → KeptRequest → SignatureError → Type 0
RefusesSelfSigned judge csr e =
    IsUnnamed csr.request.signature_algorithm e ⊎ IsMissigned judge csr e
