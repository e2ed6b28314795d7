-- Requests: an element encodes at most one, and what is written for one encodes it.
use Rattle.std.proofs.Common.{◌≡◌, ◌∷◌, Option, Some, None, refl, sym, subst, ◌∙◌, arith}
use Rattle.std.specs.Prelude.{option_to_list}
use Rattle.std.specs.Option.{option_map}
use Rattle.der_core.specs.DerElement.{DerElement}
use Rattle.der_core.specs.Encoding.{encoding, IsWellFormed, AreWellFormed}
use Rattle.der_core.specs.DerElement.{row}
use Rattle.der_core.specs.Structure.{IsGrammar}
use Rattle.der_core.specs.Facts.Fronts.{formed_encoding_once}
use Rattle.der_core.specs.Facts.Grammars.{AreDer-append, AreDer-front, AreDer-back, same_fields}
use Rattle.asn1_types.specs.Elements.{bit_string}
use Rattle.asn1_types.specs.Facts.Elements.{bit_strings}
use Rattle.asn1_types.specs.declared.bit_string.BitString.{BitString}
use Rattle.name_types.specs.Name.{name}
use Rattle.name_types.specs.Facts.Names.{names}
use Rattle.key_types.specs.AlgorithmIdentifier.{algorithm_identifier}
use Rattle.key_types.specs.PublicKeyInfo.{inner_key, public_key_info, IsPublicKeyInfo}
use Rattle.key_types.specs.Facts.Algorithms.{algorithms}
use Rattle.key_types.specs.Facts.Keys.{public_key_infos, infos_once}
use Rattle.key_types.specs.declared.algorithm.AlgorithmIdentifier.{AlgorithmIdentifier}
use Rattle.x509_types.specs.Attribute.{AreAttributes, attribute_list, inner_attributes}
use Rattle.der_core.specs.Optional.{SpellsOption, inner_option}
use Rattle.x509_issuing.specs.RequestElements.{request_version, request_info_of}
use Rattle.x509_issuing.specs.RequestInfo.{asked_of, IsRequestInfo, request_info, inner_request, request_info_octets}
use Rattle.x509_issuing.specs.CertificationRequest.{IsRequest, request, inner_of_request, request_octets}
use Rattle.x509_types.specs.Facts.Attributes.{attribute_lists}
use Rattle.x509_types.specs.Facts.Certificates.{same_three}
use Rattle.der_core.specs.Facts.Optional.{option_once, option_bounded, option_spelled, option_formed, kept_once, IsFormedOption}
use Rattle.x509_issuing.specs.Facts.DeterminedAttributes.{attribute_options_determined, small_asked_of}
use Rattle.x509_types.specs.Facts.DeterminedExtensions.{split_before}
use Rattle.x509_issuing.specs.declared.request_info.CertificationRequestInfo.{CertificationRequestInfo}
use Rattle.x509_issuing.specs.declared.request.CertificationRequest.{CertificationRequest}

-- the fields of an element are unique
pub request_fields : (s k t l : DerElement) (a b : Option DerElement) → request_info_of s k a ≡ request_info_of t l b → (s ≡ t) × (k ≡ l) × (a ≡ b)
request_fields s k t l a b e =
    let kids = same_fields (request_version ∷ s ∷ k ∷ option_to_list a) (request_version ∷ t ∷ l ∷ option_to_list b) e in
    let others : option_to_list a ≡ option_to_list b = cc in
    (cc, cc, kept_once a b others)

same_name : (a b : CertificationRequestInfo) → name a.subject ≡ name b.subject → a.subject ≡ b.subject
same_name a b e = names.once (name a.subject) a.subject b.subject refl e

pub same_request_info : (a b : CertificationRequestInfo) → a.subject ≡ b.subject → a.subject_public_key_info ≡ b.subject_public_key_info
    → a.attributes ≡ b.attributes → a ≡ b
same_request_info a b subject key attributes i = record { subject = subject i; subject_public_key_info = key i; attributes = attributes i }

infos_of_once : (element : DerElement) (a b : CertificationRequestInfo) → IsRequestInfo element a → IsRequestInfo element b → a ≡ b
infos_of_once element a b p q =
    let same = request_fields (name a.subject) p.key (name b.subject) q.key p.attributes q.attributes (sym p.is ∙ q.is) in
    same_request_info a b (same_name a b same.0)
    (public_key_infos.once q.key a.subject_public_key_info b.subject_public_key_info
    (subst (λ (e : DerElement). IsPublicKeyInfo e a.subject_public_key_info) same.1 p.keyed) q.keyed)
    (option_once AreAttributes attribute_lists.once q.attributes a.attributes b.attributes
    (subst (λ (o : Option DerElement). SpellsOption AreAttributes o a.attributes) same.2 p.spelled) q.spelled)

option_row_formed : (o : Option DerElement) → IsFormedOption o → AreWellFormed (row (option_to_list o))
option_row_formed None p = tt
option_row_formed (Some x) p = (p, tt)

pub request_infos_formed : (info : CertificationRequestInfo) → IsWellFormed (request_info info)
request_infos_formed info = (
  (omega arith, omega arith, omega arith),
  refl,
  (
    ((omega arith, omega arith, omega arith), refl),
    (
      names.formed info.subject,
      (
        public_key_infos.formed info.subject_public_key_info,
        option_row_formed (option_map attribute_list info.attributes) (option_formed attribute_list attribute_lists.formed info.attributes),
      ),
    ),
  ),
)

pub request_infos : IsGrammar IsRequestInfo request_info inner_request
request_infos = record {
  once = infos_of_once;
  bounded = λ element info p.
      AreDer-append (inner_key info.subject_public_key_info.subject_public_key) (inner_option inner_attributes info.attributes)
      (public_key_infos.bounded p.key info.subject_public_key_info p.keyed)
      (option_bounded AreAttributes inner_attributes attribute_lists.bounded p.attributes info.attributes p.spelled);
  spelled = λ info der.
      let key = inner_key info.subject_public_key_info.subject_public_key in
      let others = inner_option inner_attributes info.attributes in
      record {
        key = public_key_info info.subject_public_key_info;
        attributes = option_map attribute_list info.attributes;
        is = refl;
        keyed = public_key_infos.spelled info.subject_public_key_info (AreDer-front key others der);
        spelled = option_spelled AreAttributes attribute_list inner_attributes attribute_lists.spelled info.attributes (AreDer-back key others der);
      };
  formed = request_infos_formed;
}

request_infos_determined : (a b : CertificationRequestInfo) → asked_of a.attributes ≡ asked_of b.attributes → request_info a ≡ request_info b → a ≡ b
request_infos_determined a b asked e =
    let same = request_fields (name a.subject) (public_key_info a.subject_public_key_info) (name b.subject) (public_key_info b.subject_public_key_info)
    (option_map attribute_list a.attributes) (option_map attribute_list b.attributes) e in
    same_request_info a b (same_name a b same.0) (infos_once a.subject_public_key_info b.subject_public_key_info same.1)
    (attribute_options_determined a.attributes b.attributes asked same.2)

pub request_infos_by_octets : (a b : CertificationRequestInfo) → request_info_octets a ≡ request_info_octets b → a ≡ b
request_infos_by_octets a b e =
    let parts = split_before 0x30 (omega arith) (asked_of a.attributes) (asked_of b.attributes) (encoding (request_info a))
    (encoding (request_info b)) _ _ refl refl (small_asked_of a.attributes) (small_asked_of b.attributes) e in
    request_infos_determined a b parts.0 (formed_encoding_once (request_info a) (request_info b) (request_infos_formed a) (request_infos_formed b) parts.1)

-- ---- with their signatures

same_algorithm : (a b : AlgorithmIdentifier) → algorithm_identifier a ≡ algorithm_identifier b → a ≡ b
same_algorithm a b e = algorithms.once (algorithm_identifier a) a b refl e

same_bits : (a b : BitString) → bit_string a ≡ bit_string b → a ≡ b
same_bits a b e = bit_strings.once (bit_string a) a b refl e

pub same_request : (a b : CertificationRequest) → a.certification_request_info ≡ b.certification_request_info → a.signature_algorithm ≡ b.signature_algorithm
    → a.signature ≡ b.signature → a ≡ b
same_request a b info algorithm value i = record { certification_request_info = info i; signature_algorithm = algorithm i; signature = value i }

requests_once : (element : DerElement) (a b : CertificationRequest) → IsRequest element a → IsRequest element b → a ≡ b
requests_once element a b p q =
    let same = same_three p.info (algorithm_identifier a.signature_algorithm) (bit_string a.signature) q.info (algorithm_identifier b.signature_algorithm)
    (bit_string b.signature) (sym p.is ∙ q.is) in
    same_request a b (request_infos.once q.info a.certification_request_info b.certification_request_info
    (subst (λ (e : DerElement). IsRequestInfo e a.certification_request_info) same.0 p.spelled) q.spelled)
    (same_algorithm a.signature_algorithm b.signature_algorithm same.1) (same_bits a.signature b.signature same.2)

requests_determined : (a b : CertificationRequest) → asked_of a.certification_request_info.attributes ≡ asked_of b.certification_request_info.attributes
    → request a ≡ request b → a ≡ b
requests_determined a b asked e =
    let same = same_three (request_info a.certification_request_info) (algorithm_identifier a.signature_algorithm) (bit_string a.signature)
    (request_info b.certification_request_info) (algorithm_identifier b.signature_algorithm) (bit_string b.signature) e in
    same_request a b (request_infos_determined a.certification_request_info b.certification_request_info asked same.0)
    (same_algorithm a.signature_algorithm b.signature_algorithm same.1) (same_bits a.signature b.signature same.2)

pub requests_formed : (r : CertificationRequest) → IsWellFormed (request r)
requests_formed r = (
  (omega arith, omega arith, omega arith),
  refl,
  (request_infos.formed r.certification_request_info, (algorithms.formed r.signature_algorithm, (bit_strings.formed r.signature, tt))),
)

pub requests : IsGrammar IsRequest request inner_of_request
requests = record {
  once = requests_once;
  bounded = λ element r p. request_infos.bounded p.info r.certification_request_info p.spelled;
  spelled = λ r der. record { info = request_info r.certification_request_info; is = refl; spelled = request_infos.spelled r.certification_request_info der };
  formed = requests_formed;
}

pub requests_by_octets : (a b : CertificationRequest) → request_octets a ≡ request_octets b → a ≡ b
requests_by_octets a b e =
    let x = a.certification_request_info.attributes in
    let y = b.certification_request_info.attributes in
    let parts = split_before 0x30 (omega arith) (asked_of x) (asked_of y) (encoding (request a)) (encoding (request b)) _ _ refl refl (small_asked_of x)
    (small_asked_of y) e in
    requests_determined a b parts.0 (formed_encoding_once (request a) (request b) (requests_formed a) (requests_formed b) parts.1)
