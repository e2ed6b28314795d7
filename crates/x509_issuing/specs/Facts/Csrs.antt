-- Whether an element contains the CertificationRequestInfo of a request is a proposition, and
-- stored requests have codes.
use Rattle.std.specs.Prelude.{◌≡◌}
use Rattle.std.specs.Coded.{Coded, Coded-set}
use Rattle.std.proofs.Common.{ap, sym, subst, refl, ◌∙◌}
use Rattle.std.proofs.Math.Logic.{∥∥₁_elim}
use mathlib.Core.HLevel.{Σ_prop_path}
use Rattle.der_core.specs.DerElement.{DerElement}
use Rattle.der_core.specs.Encoding.{IsDer, most_levels}
use Rattle.der_core.specs.Facts.Codes.{stored, stored_inj, coded_element, octets_code}
use Rattle.der_core.specs.Facts.InBounds.{IsDerWithin-prop}
use Rattle.asn1_types.specs.Elements.{bit_string}
use Rattle.key_types.specs.AlgorithmIdentifier.{algorithm_identifier}
use Rattle.x509_types.specs.Facts.Certificates.{same_three}
use Rattle.x509_issuing.specs.RequestInfo.{IsRequestInfo}
use Rattle.x509_issuing.specs.CertificationRequest.{IsRequest, request_of, request_octets}
use Rattle.x509_issuing.specs.Facts.Requests.{requests, requests_by_octets}
use Rattle.x509_issuing.specs.declared.request.CertificationRequest.{CertificationRequest}
use Rattle.x509_issuing.specs.OwnedRequest.{KeptRequest, kept_request, IsAroundInfo, HasInfo}

same_element : (a b : DerElement) → IsProp (a ≡ b)
same_element a b = Coded-set coded_element a b

spelled-prop : (info : DerElement) (r : CertificationRequest) → IsProp (∥ IsRequestInfo info r.certification_request_info ∥₁)
spelled-prop info r x y = squash₁ x y

IsAroundInfo-prop : (element : DerElement) (r : CertificationRequest) (info : DerElement) → IsProp (IsAroundInfo element r info)
IsAroundInfo-prop element r info = hlevel (same_element element (request_of info r), IsDerWithin-prop most_levels (request_of info r), spelled-prop info r)

-- an element contains one CertificationRequestInfo
pub info_once : (a b : DerElement) (r s : CertificationRequest) → request_of a r ≡ request_of b s → a ≡ b
info_once a b r s e =
    (same_three a (algorithm_identifier r.signature_algorithm) (bit_string r.signature) b (algorithm_identifier s.signature_algorithm)
    (bit_string s.signature) e).0

pub HasInfo-prop : (element : DerElement) (r : CertificationRequest) → IsProp (HasInfo element r)
HasInfo-prop element r a b = Σ_prop_path (IsAroundInfo-prop element r) (info_once a.0 b.0 r r (sym a.1.0 ∙ b.1.0))

abbrev coded_request : Coded CertificationRequest
coded_request = record {
  code = λ r. octets_code.code (request_octets r);
  inj = λ a b e. requests_by_octets a b (octets_code.inj (request_octets a) (request_octets b) e);
}

-- the element with the CertificationRequestInfo of a request is an encoding of it
pub spelled_around : (info : DerElement) (r : CertificationRequest) → IsRequestInfo info r.certification_request_info → IsRequest (request_of info r) r
spelled_around info r is = record { info = info; is = refl; spelled = is }

-- an element is stored for one request
value_once : (a b : KeptRequest) → kept_request a ≡ kept_request b → a.request ≡ b.request
value_once a b e =
    ∥∥₁_elim a.spelled (Coded-set coded_request a.request b.request)
    (λ x. ∥∥₁_elim b.spelled (Coded-set coded_request a.request b.request)
    (λ y. requests.once (kept_request b) a.request b.request
    (subst (λ (element : DerElement). IsRequest element a.request) e (spelled_around a.info a.request x)) (spelled_around b.info b.request y)))

abbrev kept_of : (info : DerElement) (r : CertificationRequest) → IsDer (request_of info r) → ∥ IsRequestInfo info r.certification_request_info ∥₁ → KeptRequest
kept_of info r der spelled = record { info = info; request = r; der = der; spelled = spelled }

same_facts : (a : KeptRequest) (der : IsDer (kept_request a)) (spelled : ∥ IsRequestInfo a.info a.request.certification_request_info ∥₁)
    → a ≡ kept_of a.info a.request der spelled
same_facts a der spelled =
    ap (λ (d : IsDer (kept_request a)). kept_of a.info a.request d a.spelled) (IsDerWithin-prop most_levels (kept_request a) a.der der)
    ∙ ap (λ (s : ∥ IsRequestInfo a.info a.request.certification_request_info ∥₁). kept_of a.info a.request der s) (squash₁ a.spelled spelled)

same_value : (a : KeptRequest) (r : CertificationRequest) → a.request ≡ r
    → (der : IsDer (request_of a.info r)) (spelled : ∥ IsRequestInfo a.info r.certification_request_info ∥₁) → a ≡ kept_of a.info r der spelled
same_value a r e =
    subst (λ (x : CertificationRequest). (der : IsDer (request_of a.info x)) (spelled : ∥ IsRequestInfo a.info x.certification_request_info ∥₁)
    → a ≡ kept_of a.info x der spelled) e (same_facts a)

same_kept : (a b : KeptRequest) → a.info ≡ b.info → a.request ≡ b.request → a ≡ b
same_kept a b info value =
    subst (λ (x : DerElement). (der : IsDer (request_of x b.request)) (spelled : ∥ IsRequestInfo x b.request.certification_request_info ∥₁)
    → a ≡ kept_of x b.request der spelled) info
    (same_value a b.request value) b.der b.spelled

-- requests with the same stored element are the same
pub kept_once : (a b : KeptRequest) → kept_request a ≡ kept_request b → a ≡ b
kept_once a b e = same_kept a b (info_once a.info b.info a.request b.request e) (value_once a b e)

abbrev pub coded_requests : Coded KeptRequest
coded_requests = record { code = λ kept. stored (kept_request kept); inj = λ a b e. kept_once a b (stored_inj (kept_request a) (kept_request b) e) }
