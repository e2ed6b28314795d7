-- The request that an element encodes, by the elements in it.
use Rattle.std.proofs.Common.{◌≡◌, ◌↔◌, IsTrue, Bool, List, [], ◌∷◌, Option, sym, subst, ◌∙◌, ap}
use Rattle.std.specs.Prelude.{bytes_eq}
use Rattle.std.specs.Cmp.Lexicographic.{pointwise}
use Rattle.std.specs.Option.{option_eq}
use Rattle.std.proofs.lemmas.Slice.Eq.{bytes_eq-Decides}
use Rattle.der_core.specs.DerElement.{DerElement}
use Rattle.der_core.specs.Elements.{sequence}
use Rattle.der_core.specs.Structure.{Fits}
use Rattle.der_core.specs.Facts.Equality.{by_test, options_same, pointwise_same}
use Rattle.asn1_types.specs.Elements.{bit_string}
use Rattle.asn1_types.specs.declared.bit_string.BitString.{BitString}
use Rattle.name_types.specs.Name.{name, IsName}
use Rattle.key_types.specs.AlgorithmIdentifier.{algorithm_identifier}
use Rattle.key_types.specs.PublicKeyInfo.{IsPublicKeyInfo}
use Rattle.key_types.specs.declared.algorithm.AlgorithmIdentifier.{AlgorithmIdentifier}
use Rattle.x509_types.specs.Attribute.{attribute_octets, AreAttributes}
use Rattle.der_core.specs.Optional.{SpellsOption}
use Rattle.x509_issuing.specs.RequestElements.{request_info_of}
use Rattle.x509_issuing.specs.RequestInfo.{IsRequestInfo}
use Rattle.x509_issuing.specs.CertificationRequest.{IsRequest}
use Rattle.x509_types.specs.Facts.Attributes.{attributes_by_octets}
use Rattle.x509_types.specs.Facts.Certificates.{same_three}
use Rattle.x509_issuing.specs.Facts.Requests.{request_fields}
use Rattle.x509_types.specs.declared.attribute.Attribute.{Attribute}
use Rattle.x509_issuing.specs.declared.request_info.CertificationRequestInfo.{CertificationRequestInfo}
use Rattle.x509_issuing.specs.declared.request.CertificationRequest.{CertificationRequest}

pub by_request_fields : (element subject key : DerElement) (attributes : Option DerElement) (info : CertificationRequestInfo)
    → element ≡ request_info_of subject key attributes → IsRequestInfo element info
    → IsName subject info.subject × IsPublicKeyInfo key info.subject_public_key_info × SpellsOption AreAttributes attributes info.attributes
by_request_fields element subject key attributes info is spelled =
    let same = request_fields (name info.subject) spelled.key subject key spelled.attributes attributes (sym spelled.is ∙ is) in (
      sym same.0,
      subst (λ (e : DerElement). IsPublicKeyInfo e info.subject_public_key_info) same.1 spelled.keyed,
      subst (λ (o : Option DerElement). SpellsOption AreAttributes o info.attributes) same.2 spelled.spelled,
    )

pub of_request_fields : (element subject key : DerElement) (attributes : Option DerElement) → element ≡ request_info_of subject key attributes
    → Fits IsName subject → Fits IsPublicKeyInfo key → Fits (SpellsOption AreAttributes) attributes → Fits IsRequestInfo element
of_request_fields element subject key attributes is named keyed listed = (
  record { subject = named.0; subject_public_key_info = keyed.0; attributes = listed.0 },
  record {
    key = key;
    attributes = attributes;
    is = is ∙ ap (λ (e : DerElement). request_info_of e key attributes) named.1;
    keyed = keyed.1;
    spelled = listed.1;
  },
)

pub by_parts : (element info algorithm value : DerElement) (r : CertificationRequest) → element ≡ sequence (info ∷ algorithm ∷ value ∷ []) → IsRequest element r
    → IsRequestInfo info r.certification_request_info × (algorithm ≡ algorithm_identifier r.signature_algorithm) × (value ≡ bit_string r.signature)
by_parts element info algorithm value r is spelled =
    let same = same_three spelled.info (algorithm_identifier r.signature_algorithm) (bit_string r.signature) info algorithm value (sym spelled.is ∙ is) in
    (subst (λ (e : DerElement). IsRequestInfo e r.certification_request_info) same.0 spelled.spelled, sym same.1, sym same.2)

pub of_parts : (element info algorithm value : DerElement) → element ≡ sequence (info ∷ algorithm ∷ value ∷ []) → Fits IsRequestInfo info
    → (a : AlgorithmIdentifier) × (algorithm ≡ algorithm_identifier a)
    → (b : BitString) × (value ≡ bit_string b) → Fits IsRequest element
of_parts element info algorithm value is fit a b = (
  record { certification_request_info = fit.0; signature_algorithm = a.0; signature = b.0 },
  record {
    info = info;
    is = is ∙ ap (λ (x : DerElement). sequence (info ∷ x ∷ value ∷ [])) a.1 ∙ ap (λ (x : DerElement). sequence (info ∷ algorithm_identifier a.0 ∷ x ∷ [])) b.1;
    spelled = fit.1;
  },
)

abbrev equal : Attribute → Attribute → Bool
equal a b = bytes_eq (attribute_octets a) (attribute_octets b)

equal_same : (a b : Attribute) → IsTrue (equal a b) ↔ (a ≡ b)
equal_same a b =
    let decides = bytes_eq-Decides (attribute_octets a) (attribute_octets b) in
    (λ w. attributes_by_octets a b (decides.0 w), λ e. decides.1 (ap (λ (v : Attribute). attribute_octets v) e))

pub same_attribute_lists : (a b : Option (List Attribute)) (t : Bool) → t ≡ option_eq (pointwise equal) a b → IsTrue t ↔ (a ≡ b)
same_attribute_lists a b t test = by_test t _ (a ≡ b) test (options_same (pointwise equal) (pointwise_same equal equal_same) a b)
