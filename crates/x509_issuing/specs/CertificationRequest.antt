-- CertificationRequest ::= SEQUENCE { certificationRequestInfo CertificationRequestInfo,
-- signatureAlgorithm AlgorithmIdentifier, signature BIT STRING } (RFC 2986 4.2)
use Rattle.std.specs.Prelude.{◌≡◌, ℕ, [], ◌∷◌, ◌++◌, List}
use Rattle.der_core.specs.DerElement.{DerElement}
use Rattle.der_core.specs.Elements.{sequence}
use Rattle.der_core.specs.Encoding.{encoding}
use Rattle.asn1_types.specs.Elements.{bit_string}
use Rattle.key_types.specs.AlgorithmIdentifier.{algorithm_identifier}
use Rattle.x509_issuing.specs.RequestInfo.{asked_of, IsRequestInfo, request_info, inner_request}
use Rattle.x509_issuing.specs.declared.request.CertificationRequest.{CertificationRequest}

-- the element around what is signed, with the algorithm of the signature and the signature
abbrev pub request_of : DerElement → CertificationRequest → DerElement
request_of info r =
    sequence (info ∷ algorithm_identifier r.signature_algorithm ∷ bit_string r.signature ∷ [])

-- The element encodes the request.
pub record IsRequest (element : DerElement) (r : CertificationRequest) : Type 0 where
  pub info : DerElement
  pub is : element ≡ request_of info r
  pub spelled : IsRequestInfo info r.certification_request_info

-- the element that is written
abbrev pub request : CertificationRequest → DerElement
request r = request_of (request_info r.certification_request_info) r

-- the elements that it wraps in strings
abbrev pub inner_of_request : CertificationRequest → List DerElement
inner_of_request r = inner_request r.certification_request_info

-- the kinds of the extension values in it, and its encoding
abbrev pub request_octets : CertificationRequest → List ℕ
request_octets r = asked_of r.certification_request_info.attributes ++ encoding (request r)
