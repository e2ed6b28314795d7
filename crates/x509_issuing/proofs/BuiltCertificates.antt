-- Certificates that are built, and the steps to them.
use Rattle.std.proofs.Common.{◌≡◌, ℕ, List, [], ◌∷◌, ◌++◌, Option, Some, None, Result, Ok, Err, IfOk, MatchResult, refl, sym, ap, subst, ◌∙◌, inl}
use Rattle.std.specs.Prelude.{IsSome}
use Rattle.der_core.specs.DerElement.{Primitive}
use Rattle.der_core.specs.Encoding.{encoding}
use Rattle.der_core.specs.Steps.{IsFirstUntaken, AreTaken, RefusesBySteps}
use Rattle.der_core.proofs.TakenSteps.{untaken_before, refused_behind, refused_within}
use Rattle.asn1_types.specs.Elements.{bit_string}
use Rattle.asn1_types.specs.declared.bit_string.BitString.{BitString}
use Rattle.asn1_types.specs.declared.generalized_time.GeneralizedTime.{GeneralizedTime}
use Rattle.asn1_types.specs.declared.oids.TheConstants.{CE_BASIC_CONSTRAINTS, CE_SUBJECT_KEY_IDENTIFIER}
use Rattle.key_types.specs.AlgorithmIdentifier.{algorithm_identifier}
use Rattle.key_types.specs.declared.key_info.SubjectPublicKeyInfo.{SubjectPublicKeyInfo}
use Rattle.key_core.specs.SignatureAlgorithm.{NamesSignature}
use Rattle.key_core.specs.Signing.{Signs, Pair, IsKeyPair, arithmetic}
use Rattle.key_core.specs.Verifying.{Judge}
use Rattle.x509_types.specs.Facts.Certificates.{same_three}
use Rattle.x509_types.specs.FirstOfValue.{extensions_in}
use Rattle.x509_types.specs.TbsCertificate.{tbs_certificate}
use Rattle.x509_types.specs.TbsElements.{tbs_of}
use Rattle.x509_types.specs.declared.certificate.tbs_certificate.TbsCertificate.{TbsCertificate}
use Rattle.x509_types.specs.declared.extension.Extension.{Extension}
use Rattle.x509_types.specs.declared.extension.view.ExtensionView.TheVariants as views
use Rattle.x509_core.specs.Distinct.{AreDistinct}
use Rattle.x509_core.specs.FirstValue.{HasFirst}
use Rattle.x509_core.specs.OwnedCertificate.{KeptCertificate}
use Rattle.x509_core.specs.Link.{IsSignedBy}
use Rattle.x509_core.specs.SaidValues.{NamesKey}
use Rattle.x509_core.specs.declared.error.CertError.{CertError}
use Rattle.asn1_types.specs.declared.integer.IntegerAsn1.{IntegerAsn1}
use Rattle.key_types.specs.declared.algorithm.AlgorithmIdentifier.{AlgorithmIdentifier}
use Rattle.x509_types.specs.declared.certificate.version.Version.TheVariants as versions
use Rattle.x509_types.specs.declared.certificate.validity.Validity.{Validity}
use Rattle.x509_core.proofs.SignedParts.{signed_by, signed_with}
use Rattle.x509_core.specs.declared.error.CertError.TheVariants as errors
use Rattle.x509_issuing.specs.BuiltCertificate.{authority_of, IsBuiltBy, IsBuiltFor, IsIdentified, IsTbsBy, IsTbsFor, IsValidityOf, NameSets}
use Rattle.x509_issuing.specs.Building.{IsBuilt, IsMade, algorithm_step, build_steps, given_steps}
use Rattle.x509_issuing.specs.Building.{identifier_step, message_of, signing_steps, steps_by, subject_steps}
use Rattle.x509_issuing.specs.MadeExtensions.{AreBuilt, constraints_of}
use Rattle.x509_issuing.specs.declared.builder.CertificateBuilder.{CertificateBuilder}
use Rattle.x509_issuing.specs.declared.builder.IssuerInfos.{IssuerInfos}
use Rattle.x509_issuing.proofs.MadeCertificates.{made_or_refused}
use Rattle.x509_issuing.proofs.Subjects.{subject_taken}
use Rattle.x509_issuing.proofs.WantedExtensions.{built_authority, built_constrained, built_distinct, built_key}

is_given : {X : Type 0} (option : Option X) (x : X) → option ≡ Some x → IsSome option
is_given {X} option x e = subst (λ (o : Option X). IsSome o) (sym e) refl

pub not_given : (judge : Judge) (signs : Signs) (pair : Pair) (b : CertificateBuilder) (word : ℕ) (e : CertError) → IsFirstUntaken (given_steps b) e
    → RefusesBySteps errors.Memory (build_steps (arithmetic judge signs pair) b word) e
not_given judge signs pair b word e first = inl (untaken_before (given_steps b) (steps_by (arithmetic judge signs pair) b word b.issuer_infos) e first)

module _ (judge : Judge) (signs : Signs) (pair : Pair) (b : CertificateBuilder) (word : ℕ) (issuer : IssuerInfos) (from to : GeneralizedTime)
    (begins : b.valid_from ≡ Some from) (ends : b.valid_to ≡ Some to) (issued : b.issuer_infos ≡ Some issuer) where
  given_taken : AreTaken (given_steps b)
  given_taken = (is_given b.valid_from from begins, (is_given b.valid_to to ends, (is_given b.issuer_infos issuer issued, tt)))

  behind_given : (e : CertError) → RefusesBySteps errors.Memory (steps_by (arithmetic judge signs pair) b word (Some issuer)) e
      → RefusesBySteps errors.Memory (build_steps (arithmetic judge signs pair) b word) e
  behind_given e refused =
      refused_behind errors.Memory (given_steps b) (steps_by (arithmetic judge signs pair) b word b.issuer_infos) e given_taken
      (subst (λ (o : Option IssuerInfos). RefusesBySteps errors.Memory (steps_by (arithmetic judge signs pair) b word o) e) (sym issued) refused)

  pub no_subject : (e : CertError) → RefusesBySteps errors.Memory (subject_steps judge issuer.self_signed b issuer ++ identifier_step judge b issuer ∷ []) e
      → RefusesBySteps errors.Memory (build_steps (arithmetic judge signs pair) b word) e
  no_subject e refused =
      behind_given e (refused_within errors.Memory (subject_steps judge issuer.self_signed b issuer) (identifier_step judge b issuer ∷ [])
      (algorithm_step b ∷ signing_steps (arithmetic judge signs pair) b.signature_hash_type issuer.key.now (IsTbsFor judge b issuer word)) e refused)

  behind_subject : (own : List ℕ) (name : NameSets) (key : SubjectPublicKeyInfo) (e : CertError) → IsBuiltFor judge b issuer own name key
      → RefusesBySteps errors.Memory (algorithm_step b ∷ signing_steps (arithmetic judge signs pair) b.signature_hash_type issuer.key.now
      (IsTbsFor judge b issuer word)) e → RefusesBySteps errors.Memory (build_steps (arithmetic judge signs pair) b word) e
  behind_subject own name key e to_whom refused =
      behind_given e (refused_behind errors.Memory (subject_steps judge issuer.self_signed b issuer)
      (identifier_step judge b issuer ∷ algorithm_step b ∷ signing_steps (arithmetic judge signs pair) b.signature_hash_type issuer.key.now
      (IsTbsFor judge b issuer word)) e
      (subject_taken judge issuer.self_signed b issuer name key to_whom.subject)
      (refused_behind errors.Memory (identifier_step judge b issuer ∷ [])
      (algorithm_step b ∷ signing_steps (arithmetic judge signs pair) b.signature_hash_type issuer.key.now (IsTbsFor judge b issuer word)) e
      ((name, key, own, to_whom), tt) refused))

  pub no_algorithm : (own : List ℕ) (name : NameSets) (key : SubjectPublicKeyInfo) (e : CertError) → IsBuiltFor judge b issuer own name key
      → RefusesBySteps errors.Memory (algorithm_step b ∷ []) e
      → RefusesBySteps errors.Memory (build_steps (arithmetic judge signs pair) b word) e
  no_algorithm own name key e to_whom refused =
      behind_subject own name key e to_whom
      (refused_within errors.Memory [] (algorithm_step b ∷ [])
      (signing_steps (arithmetic judge signs pair) b.signature_hash_type issuer.key.now (IsTbsFor judge b issuer word)) e refused)

  -- the TBSCertificate is the builder's
  tbs_for : (own : List ℕ) (name : NameSets) (key : SubjectPublicKeyInfo) (tbs : TbsCertificate) → IsBuiltFor judge b issuer own name key
      → IsTbsBy b issuer word own tbs
      → IsValidityOf from to tbs.validity → tbs.subject ≡ name → tbs.subject_public_key_info ≡ key → IsTbsFor judge b issuer word tbs
  tbs_for own name key tbs to_whom by validity named keyed = record {
    from = from;
    to = to;
    valid_from = begins;
    valid_to = ends;
    validity = validity;
    own = own;
    issued_to = subst (λ (n : NameSets). IsBuiltFor judge b issuer own n tbs.subject_public_key_info) (sym named)
        (subst (λ (k : SubjectPublicKeyInfo). IsBuiltFor judge b issuer own name k) (sym keyed) to_whom);
    by = by;
  }

  pub built_or_refused : (own : List ℕ) (name : NameSets) (key : SubjectPublicKeyInfo) (tbs : TbsCertificate) (r : Result KeptCertificate CertError)
      → IsBuiltFor judge b issuer own name key → IsTbsBy b issuer word own tbs
      → IsValidityOf from to tbs.validity → tbs.subject ≡ name → tbs.subject_public_key_info ≡ key
      → MatchResult r (IsMade (arithmetic judge signs pair) b.signature_hash_type issuer.key.now (λ t. t ≡ tbs))
      (RefusesBySteps errors.Memory (signing_steps (arithmetic judge signs pair) b.signature_hash_type issuer.key.now (λ t. t ≡ tbs)))
      → MatchResult r (IsBuilt (arithmetic judge signs pair) b word) (RefusesBySteps errors.Memory (build_steps (arithmetic judge signs pair) b word))
  built_or_refused own name key tbs r to_whom by validity named keyed made =
      returned r (made_or_refused judge signs pair b.signature_hash_type issuer.key.now (λ t. t ≡ tbs) (IsTbsFor judge b issuer word) r
      (λ t e. subst (IsTbsFor judge b issuer word) (sym e) (tbs_for own name key tbs to_whom by validity named keyed)) made)
    where
      returned : (r : Result KeptCertificate CertError)
          → MatchResult r (IsMade (arithmetic judge signs pair) b.signature_hash_type issuer.key.now (IsTbsFor judge b issuer word))
          (RefusesBySteps errors.Memory (signing_steps (arithmetic judge signs pair) b.signature_hash_type issuer.key.now (IsTbsFor judge b issuer word)))
          → MatchResult r (IsBuilt (arithmetic judge signs pair) b word) (RefusesBySteps errors.Memory (build_steps (arithmetic judge signs pair) b word))
      returned (Ok cert) is = record { issuer = issuer; given = issued; made = is }
      returned (Err e) refused =
          behind_subject own name key e to_whom
          (refused_behind errors.Memory (algorithm_step b ∷ [])
          (signing_steps (arithmetic judge signs pair) b.signature_hash_type issuer.key.now (IsTbsFor judge b issuer word)) e
          ((tbs.signature, by.issued_by.signs), tt) refused)

-- ---- what holds of its extensions

pub all_distinct : (judge : Judge) (signs : Signs) (pair : Pair) (b : CertificateBuilder) (word : ℕ) (r : Result KeptCertificate CertError)
    (Refused : CertError → Type 0)
    → MatchResult r (IsBuilt (arithmetic judge signs pair) b word) Refused
    → IfOk r (λ cert. AreDistinct (extensions_in cert.certificate.tbs_certificate.extensions))
all_distinct judge signs pair b word (Ok cert) Refused is =
    let by = is.made.made.tbs.by in
    subst (λ (o : Option (List Extension)). AreDistinct (extensions_in o)) (sym by.given) (built_distinct b is.issuer _ _ by.extensions by.built)
all_distinct judge signs pair b word (Err e) Refused is = tt

pub constrained : (judge : Judge) (signs : Signs) (pair : Pair) (b : CertificateBuilder) (word : ℕ) (r : Result KeptCertificate CertError)
    (Refused : CertError → Type 0)
    → MatchResult r (IsBuilt (arithmetic judge signs pair) b word) Refused
    → IfOk r (λ cert. HasFirst CE_BASIC_CONSTRAINTS.now (extensions_in cert.certificate.tbs_certificate.extensions) (constraints_of b))
constrained judge signs pair b word (Ok cert) Refused is =
    let by = is.made.made.tbs.by in
    subst (λ (o : Option (List Extension)). HasFirst CE_BASIC_CONSTRAINTS.now (extensions_in o) (constraints_of b)) (sym by.given)
    (built_constrained b is.issuer _ _ by.extensions by.built)
constrained judge signs pair b word (Err e) Refused is = tt

pub identified : (judge : Judge) (signs : Signs) (pair : Pair) (b : CertificateBuilder) (word : ℕ) (r : Result KeptCertificate CertError)
    (Refused : CertError → Type 0)
    → MatchResult r (IsBuilt (arithmetic judge signs pair) b word) Refused → IfOk r (λ cert. IsIdentified b cert.certificate.tbs_certificate)
identified judge signs pair b word (Ok cert) Refused is =
    let tbs = is.made.made.tbs in
    let by = tbs.by in record {
      issuer = is.issuer;
      given = is.given;
      own = tbs.own;
      identified = tbs.issued_to.identified;
      key = subst (λ (o : Option (List Extension)). HasFirst CE_SUBJECT_KEY_IDENTIFIER.now (extensions_in o) (views.SubjectKeyIdentifier tbs.own))
          (sym by.given) (built_key b is.issuer _ _ by.extensions by.built);
      authority = subst (λ (o : Option (List Extension)). NamesKey (extensions_in o) (authority_of is.issuer.self_signed b.authority_key_identifier tbs.own))
          (sym by.given)
          (built_authority b is.issuer _ _ by.extensions by.built);
    }
identified judge signs pair b word (Err e) Refused is = tt

-- ---- the TBSCertificate from its parts

abbrev parts : IntegerAsn1 → AlgorithmIdentifier → NameSets → Validity → NameSets → SubjectPublicKeyInfo → List Extension → TbsCertificate
parts serial algorithm issuer validity subject key extensions = record {
  version = Some versions.V3;
  serial_number = serial;
  signature = algorithm;
  issuer = issuer;
  validity = validity;
  subject = subject;
  subject_public_key_info = key;
  issuer_unique_id = None;
  subject_unique_id = None;
  extensions = Some extensions;
}

pub tbs_by : (b : CertificateBuilder) (issuer : IssuerInfos) (word : ℕ) (own : List ℕ) (serial : IntegerAsn1) (algorithm : AlgorithmIdentifier) (by : NameSets)
    (validity : Validity) (subject : NameSets) (key : SubjectPublicKeyInfo)
    (extensions : List Extension) (tbs : TbsCertificate) → tbs ≡ parts serial algorithm by validity subject key extensions
    → IsBuiltBy b issuer word serial algorithm by
    → AreBuilt b issuer own (authority_of issuer.self_signed b.authority_key_identifier own) extensions
    → IsTbsBy b issuer word own tbs × (tbs.validity ≡ validity) × (tbs.subject ≡ subject) × (tbs.subject_public_key_info ≡ key)
tbs_by b issuer word own serial algorithm by validity subject key extensions tbs is issued built =
    subst (λ (t : TbsCertificate). IsTbsBy b issuer word own t × (t.validity ≡ validity) × (t.subject ≡ subject) × (t.subject_public_key_info ≡ key)) (sym is) (
      record { version = refl; issued_by = issued; issuer_unique_id = refl; subject_unique_id = refl; extensions = extensions; given = refl; built = built },
      refl,
      refl,
      refl,
    )

-- ---- links of chains

one_issuer : (a b : IssuerInfos) → ◌≡◌ {A = Option IssuerInfos} (Some a) (Some b) → a ≡ b
one_issuer a b e = cc

same_payload : (unused : ℕ) (signature : List ℕ) (bits : BitString) → Primitive 0x03 (unused ∷ signature) ≡ bit_string bits → bits.payload ≡ signature
same_payload unused signature bits e = cc

pub signed_under : (judge : Judge) (signs : Signs) (pair : Pair) (b : CertificateBuilder) (word : ℕ) (cert parent : KeptCertificate)
    (is : IsBuilt (arithmetic judge signs pair) b word cert)
    → IsKeyPair pair is.issuer.key.now parent.certificate.tbs_certificate.subject_public_key_info → IsSignedBy judge parent.elements cert.elements
signed_under judge signs pair b word cert parent is paired =
    let c = cert.certificate in
    let whole = is.made.made in
    let info = parent.certificate.tbs_certificate.subject_public_key_info in
    let same = same_three (tbs_of cert.elements.tbs) cert.elements.algorithm (Primitive 0x03 (cert.elements.unused ∷ cert.elements.signature))
    (tbs_certificate c.tbs_certificate) (algorithm_identifier c.signature_algorithm) (bit_string c.signature_value) is.made.written in
    signed_by judge parent cert b.signature_hash_type info (message_of c.tbs_certificate) c.signature_value.payload
    (signed_with parent cert b.signature_hash_type info refl
    (subst (λ (id : AlgorithmIdentifier). NamesSignature id b.signature_hash_type) (sym whole.beside) whole.tbs.by.issued_by.signs.identifier))
    (ap encoding (sym same.0)) (same_payload cert.elements.unused cert.elements.signature c.signature_value same.2) (whole.accepted info paired)

pub signed_by_parents : (judge : Judge) (signs : Signs) (pair : Pair) (b : CertificateBuilder) (word : ℕ) (r : Result KeptCertificate CertError)
    (Refused : CertError → Type 0)
    → MatchResult r (IsBuilt (arithmetic judge signs pair) b word) Refused
    → IfOk r (λ cert. (issuer : IssuerInfos) (parent : KeptCertificate) → b.issuer_infos ≡ Some issuer
    → IsKeyPair pair issuer.key.now parent.certificate.tbs_certificate.subject_public_key_info
    → IsSignedBy judge parent.elements cert.elements)
signed_by_parents judge signs pair b word (Ok cert) Refused is = λ issuer parent given paired.
    signed_under judge signs pair b word cert parent is
    (subst (λ (i : IssuerInfos). IsKeyPair pair i.key.now parent.certificate.tbs_certificate.subject_public_key_info)
    (one_issuer issuer is.issuer (sym given ∙ is.given)) paired)
signed_by_parents judge signs pair b word (Err e) Refused is = tt
