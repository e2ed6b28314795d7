-- A certification request stored with its octets (RFC 2986 4.2).
use Rattle.std.specs.Prelude.{◌≡◌, List, [], ◌∷◌, ◌++◌, Option}
use Rattle.der_core.specs.DerElement.{DerElement}
use Rattle.der_core.specs.Encoding.{IsDer}
use Rattle.asn1_types.specs.declared.bit_string.BitString.{BitString}
use Rattle.key_types.specs.declared.algorithm.AlgorithmIdentifier.{AlgorithmIdentifier}
use Rattle.key_core.specs.Keys.{info_of}
use Rattle.key_core.specs.declared.public_key.PublicKey.{PublicKey}
use Rattle.name_types.specs.declared.attribute.AttributeTypeAndValue.{AttributeTypeAndValue}
use Rattle.x509_types.specs.declared.attribute.Attribute.{Attribute}
use Rattle.x509_issuing.specs.RequestInfo.{IsRequestInfo, request_info, inner_request}
use Rattle.x509_issuing.specs.CertificationRequest.{request_of, request, inner_of_request}
use Rattle.x509_issuing.specs.declared.request.CertificationRequest.{CertificationRequest}
use Rattle.x509_issuing.specs.declared.request_info.CertificationRequestInfo.{CertificationRequestInfo}

-- The element of the CertificationRequestInfo, and the value: the element encodes that of the
-- value, and the element around it is within limits.
pub record KeptRequest : Type 0 where
  pub info : DerElement
  pub request : CertificationRequest
  pub der : IsDer (request_of info request)
  pub spelled : ∥ IsRequestInfo info request.certification_request_info ∥₁

-- the stored element
abbrev pub kept_request : KeptRequest → DerElement
kept_request kept = request_of kept.info kept.request

-- The element contains this one, which is within limits and encodes the CertificationRequestInfo of
-- the request.
abbrev pub IsAroundInfo : DerElement → CertificationRequest → DerElement → Type 0
IsAroundInfo element r info =
    (element ≡ request_of info r) × IsDer (request_of info r)
    × ∥ IsRequestInfo info r.certification_request_info ∥₁

-- The element contains some such element.
abbrev pub HasInfo : DerElement → CertificationRequest → Type 0
HasInfo element r = (info : DerElement) × IsAroundInfo element r info

-- the request with these parts
abbrev pub request_with : List (List AttributeTypeAndValue) → PublicKey → Option (List Attribute)
    → AlgorithmIdentifier → BitString → CertificationRequest
request_with subject key attributes algorithm signature = record {
  certification_request_info = record
      { subject = subject; subject_public_key_info = info_of key; attributes = attributes };
  signature_algorithm = algorithm;
  signature = signature;
}

-- all elements that are written for a CertificationRequestInfo, inner ones first
abbrev pub info_elements : CertificationRequestInfo → List DerElement
info_elements info = inner_request info ++ request_info info ∷ []

-- all elements that are written for a request, inner ones first
abbrev pub request_elements : CertificationRequest → List DerElement
request_elements r = inner_of_request r ++ request r ∷ []
