-- When a certificate is built, and why it isn't: the steps in order.
use Rattle.std.specs.Prelude.{◌≡◌, ℕ, Bool, true, false, List, [], ◌∷◌, ◌++◌, Option, Some, None, IsSome}
use Rattle.der_core.specs.DerElement.{DerElement}
use Rattle.der_core.specs.Encoding.{encoding, IsDer}
use Rattle.der_core.specs.Borrowed.{AreDer}
use Rattle.der_core.specs.Refusals.{RefusesInner}
use Rattle.asn1_types.specs.Values.{payload_of, unused_of}
use Rattle.key_types.specs.declared.algorithm.AlgorithmIdentifier.{AlgorithmIdentifier}
use Rattle.key_types.specs.declared.key_info.SubjectPublicKeyInfo.{SubjectPublicKeyInfo}
use Rattle.key_core.specs.KeyIdentifier.{RefusesKeyIdentifier}
use Rattle.key_core.specs.Keys.{container_of, point_beside}
use Rattle.key_core.specs.PublicHalf.{RefusesPublicHalf}
use Rattle.key_core.specs.SignatureAlgorithm.{IsWrittenAlgorithm, IsUnwritable}
use Rattle.key_core.specs.SignatureRules.{RefusesSignatureBy}
use Rattle.key_core.specs.Signing.{Signs, Pair, KeyArithmetic, IsAsked, IsKeyPair, sign_rules}
use Rattle.key_core.specs.Verifying.{Judge, Accepts}
use Rattle.key_core.specs.declared.element.Element.TheVariants as elements
use Rattle.key_core.specs.declared.private_key.PrivateKey.{PrivateKey}
use Rattle.key_core.specs.declared.signature_algorithm.SignatureAlgorithm.{SignatureAlgorithm}
use Rattle.x509_types.specs.Certificate.{certificate}
use Rattle.x509_types.specs.CertificateElements.{certificate_of}
use Rattle.x509_types.specs.TbsCertificate.{tbs_certificate, inner_tbs}
use Rattle.x509_types.specs.declared.certificate.Certificate.{Certificate}
use Rattle.x509_types.specs.declared.certificate.tbs_certificate.TbsCertificate.{TbsCertificate}
use Rattle.x509_core.specs.CertRefusals.{IsUnwrittenCert}
use Rattle.x509_core.specs.OwnedCertificate.{KeptCertificate, written_elements}
use Rattle.x509_core.specs.Link.{signature_refusal}
use Rattle.x509_core.specs.declared.error.Arg.{Arg}
use Rattle.x509_core.specs.declared.error.Arg.TheVariants as arguments
use Rattle.x509_core.specs.declared.error.CertError.{CertError}
use Rattle.x509_core.specs.declared.error.CertError.TheVariants as errors
use Rattle.der_core.specs.Refusals.{Wraps}
use Rattle.der_core.specs.Steps.{Step}
use Rattle.x509_issuing.specs.BuildRefusals.{no_half, no_request, no_key_id, no_octets, no_signature}
use Rattle.x509_issuing.specs.BuiltCertificate.{IsHalfOf, NameSets, IsSubject, IsBuiltFor, IsTbsFor}
use Rattle.x509_issuing.specs.CsrRefusals.{IsUnsigned}
use Rattle.x509_issuing.specs.OwnedRequest.{KeptRequest}
use Rattle.x509_issuing.specs.SelfSigned.{IsSelfSigned, RefusesSelfSigned}
use Rattle.x509_issuing.specs.declared.builder.CertificateBuilder.{CertificateBuilder}
use Rattle.x509_issuing.specs.declared.builder.IssuerInfos.{IssuerInfos}
use Rattle.x509_issuing.specs.declared.builder.SubjectInfos.{SubjectInfos}
use Rattle.x509_issuing.specs.declared.builder.SubjectInfos.TheVariants as subjects

-- the octets that are signed (RFC 5280 4.1.1.3)
abbrev pub message_of : TbsCertificate → List ℕ
message_of tbs = encoding (tbs_certificate tbs)

-- The TBSCertificate is one of these, the algorithm outside it is the one within, and the signature
-- has no unused bits and is accepted under each public key that pairs with the private one.
pub record IsSignedCertificate (judge : Judge) (pair : Pair) (algorithm : SignatureAlgorithm)
    (key : PrivateKey) (IsTbs : TbsCertificate → Type 0) (c : Certificate) : Type 0 where
  pub tbs : IsTbs c.tbs_certificate
  pub beside : c.signature_algorithm ≡ c.tbs_certificate.signature
  pub unused : unused_of c.signature_value ≡ 0
  pub accepted : (public : SubjectPublicKeyInfo) → IsKeyPair pair key public
      → Accepts judge algorithm public (message_of c.tbs_certificate) (payload_of c.signature_value)

-- The scheme signs the TBSCertificate.
abbrev pub IsTbsSigned : Signs → SignatureAlgorithm → PrivateKey → TbsCertificate → Type 0
IsTbsSigned signs algorithm key tbs = IsAsked signs algorithm key (message_of tbs) true

-- The certificate is one of these, signed by the key, and stored as the element that is written for
-- it.
pub record IsMade (scheme : KeyArithmetic) (algorithm : SignatureAlgorithm) (key : PrivateKey)
    (IsTbs : TbsCertificate → Type 0) (cert : KeptCertificate) : Type 0 where
  pub signed : IsTbsSigned scheme.signs algorithm key cert.certificate.tbs_certificate
  pub made : IsSignedCertificate scheme.judge scheme.pair algorithm key IsTbs cert.certificate
  pub written : certificate_of cert.elements ≡ certificate cert.certificate

-- The certificate is the one that the builder describes, signed by the issuer.
pub record IsBuilt (scheme : KeyArithmetic) (b : CertificateBuilder) (word : ℕ)
    (cert : KeptCertificate) : Type 0 where
  pub issuer : IssuerInfos
  pub given : b.issuer_infos ≡ Some issuer
  pub made : IsMade scheme b.signature_hash_type issuer.key.now
      (IsTbsFor scheme.judge b issuer word) cert

-- ---- steps

-- the argument is given, else its name is reported
abbrev pub given_step : {X : Type 0} → Arg → Option X → Step CertError
given_step {X} argument option = record {
  taken = IsSome option;
  refused = λ e. (option ≡ None) × (e ≡ errors.MissingBuilderArgument argument);
}

-- the issuer's private key has a public key
abbrev pub half_step : PrivateKey → Step CertError
half_step key = record {
  taken = (info : SubjectPublicKeyInfo) × IsHalfOf key info;
  refused = Wraps no_half (RefusesPublicHalf (container_of key).private_key (point_beside key));
}

-- the request, if any, is signed by its own key
abbrev pub request_step : Judge → Option SubjectInfos → Step CertError
request_step judge subject = record {
  taken = (csr : KeptRequest) → subject ≡ Some (subjects.Request csr) → IsSelfSigned judge csr;
  refused = λ e. (csr : KeptRequest) × (subject ≡ Some (subjects.Request csr))
      × Wraps no_request (IsUnsigned (RefusesSelfSigned judge csr)) e;
}

-- if the subject isn't the issuer: the authority key identifier is given, the subject is given, and
-- its request is signed
abbrev pub other_steps : Judge → CertificateBuilder → List (Step CertError)
other_steps judge b =
    given_step arguments.AuthorityKeyIdentifier b.authority_key_identifier ∷
    given_step arguments.SubjectInfos b.subject_infos ∷ request_step judge b.subject_infos ∷ []

-- the subject: the issuer itself, whose key has a public key, or another
abbrev pub subject_steps : Judge → (self_signed : Bool) → CertificateBuilder → IssuerInfos
    → List (Step CertError)
subject_steps judge true b issuer = half_step issuer.key.now ∷ []
subject_steps judge false b issuer = other_steps judge b

-- The subject's key has a key identifier. If the issuer is the subject, so has the issuer's.
abbrev pub identifier_step : Judge → CertificateBuilder → IssuerInfos → Step CertError
identifier_step judge b issuer = record {
  taken = (name : NameSets) × (key : SubjectPublicKeyInfo) × (own : List ℕ)
      × IsBuiltFor judge b issuer own name key;
  refused = λ e. (name : NameSets) × (key : SubjectPublicKeyInfo)
      × IsSubject judge b issuer name key
      × Wraps no_key_id (RefusesKeyIdentifier b.key_id_gen_method key) e;
}

-- the algorithm has an OID
abbrev pub algorithm_step : CertificateBuilder → Step CertError
algorithm_step b = record {
  taken = (id : AlgorithmIdentifier) × IsWrittenAlgorithm b.signature_hash_type id;
  refused = Wraps signature_refusal (IsUnwritable b.signature_hash_type);
}

-- all elements that are written for a TBSCertificate, inner ones first
abbrev pub tbs_written : TbsCertificate → List DerElement
tbs_written tbs = inner_tbs tbs ++ tbs_certificate tbs ∷ []

module _ (scheme : KeyArithmetic) (algorithm : SignatureAlgorithm) (key : PrivateKey) (IsTbs : TbsCertificate → Type 0) where
  -- the TBSCertificate can be written
  abbrev pub octets_step : Step CertError
  octets_step = record {
    taken = (tbs : TbsCertificate) × IsTbs tbs × IsDer (tbs_certificate tbs)
        × AreDer (inner_tbs tbs);
    refused = λ e. (tbs : TbsCertificate) × IsTbs tbs
        × Wraps no_octets (RefusesInner (tbs_written tbs)) e;
  }

  -- the key signs it
  abbrev pub signature_step : Step CertError
  signature_step = record {
    taken = (tbs : TbsCertificate) × IsTbs tbs × IsTbsSigned scheme.signs algorithm key tbs;
    refused = λ e. (tbs : TbsCertificate) × IsTbs tbs
        × Wraps no_signature
        (RefusesSignatureBy (sign_rules scheme.signs algorithm key (message_of tbs))) e;
  }

  -- the certificate can be written
  abbrev pub whole_step : Step CertError
  whole_step = record {
    taken = (cert : KeptCertificate) × IsMade scheme algorithm key IsTbs cert;
    refused = λ e. (c : Certificate)
        × IsSignedCertificate scheme.judge scheme.pair algorithm key IsTbs c
        × IsUnwrittenCert elements.Certificate (RefusesInner (written_elements c)) e;
  }

  -- the steps from a TBSCertificate to the certificate
  abbrev pub signing_steps : List (Step CertError)
  signing_steps = octets_step ∷ signature_step ∷ whole_step ∷ []

-- the steps after the dates and the issuer, which are given; none if there is no issuer
abbrev pub steps_by : KeyArithmetic → CertificateBuilder → ℕ → Option IssuerInfos
    → List (Step CertError)
steps_by scheme b word None = []
steps_by scheme b word (Some issuer) =
    subject_steps scheme.judge issuer.self_signed b issuer
    ++ identifier_step scheme.judge b issuer ∷
    algorithm_step b ∷
    signing_steps scheme b.signature_hash_type issuer.key.now (IsTbsFor scheme.judge b issuer word)

-- the dates and the issuer are given
abbrev pub given_steps : CertificateBuilder → List (Step CertError)
given_steps b =
    given_step arguments.ValidFrom b.valid_from ∷ given_step arguments.ValidTo b.valid_to ∷
    given_step arguments.IssuerInfos b.issuer_infos ∷ []

-- the arguments of the subject: none if it is the issuer
abbrev pub subject_arguments : (self_signed : Bool) → CertificateBuilder → List (Step CertError)
subject_arguments true b = []
subject_arguments false b =
    given_step arguments.AuthorityKeyIdentifier b.authority_key_identifier ∷
    given_step arguments.SubjectInfos b.subject_infos ∷ []

-- the other required arguments, if the issuer is given
abbrev pub arguments_by : CertificateBuilder → Option IssuerInfos → List (Step CertError)
arguments_by b None = []
arguments_by b (Some issuer) = subject_arguments issuer.self_signed b

-- All required arguments are given.
abbrev pub argument_steps : CertificateBuilder → List (Step CertError)
argument_steps b = given_steps b ++ arguments_by b b.issuer_infos

-- The steps of building, in order.
abbrev pub build_steps : KeyArithmetic → CertificateBuilder → ℕ → List (Step CertError)
build_steps scheme b word = given_steps b ++ steps_by scheme b word b.issuer_infos
