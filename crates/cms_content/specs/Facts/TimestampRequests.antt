-- Timestamp requests: different ones have different elements, each well formed.
use Rattle.std.proofs.Common.{◌≡◌, [], refl, arith}
use Rattle.der_core.specs.Structure.{IsGrammar}
use Rattle.der_core.specs.Facts.Grammars.{printed}
use Rattle.asn1_types.specs.Elements.{object_identifier}
use Rattle.asn1_types.specs.Facts.Elements.{identifiers}
use Rattle.cms_content.specs.ContentInfo.{content_info}
use Rattle.cms_content.specs.TimestampRequest.{timestamp_request}
use Rattle.cms_content.specs.Facts.ContentInfos.{content_infos}
use Rattle.cms_content.specs.declared.timestamp_request.TimestampRequest.{TimestampRequest}

requests_once : (a b : TimestampRequest) → timestamp_request a ≡ timestamp_request b → a ≡ b
requests_once a b e =
    let same_ty : object_identifier a.countersignature_type ≡ object_identifier b.countersignature_type = cc in
    let same_content : content_info a.content ≡ content_info b.content = cc in
    let ty : a.countersignature_type ≡ b.countersignature_type =
    identifiers.once (object_identifier a.countersignature_type) a.countersignature_type b.countersignature_type refl same_ty in
    let content : a.content ≡ b.content = content_infos.once (content_info a.content) a.content b.content refl same_content in
    λ i. record { countersignature_type = ty i; content = content i }

pub timestamp_requests : IsGrammar (λ element request. element ≡ timestamp_request request) timestamp_request (λ request. [])
timestamp_requests =
    printed timestamp_request requests_once
    (λ request. ((omega arith, omega arith, omega arith), refl, (identifiers.formed request.countersignature_type, (content_infos.formed request.content, tt))))
