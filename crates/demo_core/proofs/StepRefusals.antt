-- The certificate of a step is refused for memory alone.
use Rattle.std.proofs.Common.{◌≡◌, inl, inr, Bool, ℕ, ◌+◌, ◌<◌, List, [], ◌∷◌, ◌++◌, Option, Some, None, sym, ap, subst, ◌∙◌}
use Rattle.std.specs.Prelude.{⊤}
use Rattle.der_core.specs.Steps.{IsFirstUntaken, RefusesBySteps, Step as BuildStep}
use Rattle.asn1_types.specs.Calendar.{IsUtcYear}
use Rattle.asn1_types.specs.declared.generalized_time.GeneralizedTime.{GeneralizedTime}
use Rattle.sig_core.specs.DemoScheme.{demo_verdict}
use Rattle.key_core.specs.KeyIdentifier.{RefusesKeyIdentifier}
use Rattle.key_core.specs.PrivatePkcs1.{IsPrivatePkcs1}
use Rattle.key_core.specs.SignatureAlgorithm.{IsUnwritable}
use Rattle.key_core.specs.SignatureRules.{RefusesSignatureBy}
use Rattle.key_core.specs.Signing.{arithmetic, sign_rules}
use Rattle.key_core.specs.declared.element.Element.TheVariants as elements
use Rattle.key_core.specs.declared.key_id.KeyIdGenMethod.{KeyIdGenMethod}
use Rattle.key_core.specs.declared.signature_algorithm.SignatureAlgorithm.{SignatureAlgorithm}
use Rattle.key_core.specs.declared.signature_error.SignatureError.{SignatureError}
use Rattle.key_core.specs.declared.signature_error.SignatureError.TheVariants as signature_errors
use Rattle.key_core.specs.declared.signature_algorithm.SignatureAlgorithm.TheVariants.{RsaPkcs1v15}
use Rattle.sig_core.specs.declared.hash.HashAlgorithm.TheVariants.{SHA2_256}
use Rattle.x509_core.specs.CertRefusals.{unwritten}
use Rattle.x509_core.specs.OwnedCertificate.{written_elements}
use Rattle.x509_core.specs.Link.{signature_refusal}
use Rattle.x509_core.specs.declared.error.CertError.{CertError}
use Rattle.x509_core.specs.declared.error.CertError.TheVariants as errors
use Rattle.x509_issuing.specs.BuildRefusals.{no_half, no_key_id, no_octets, no_signature}
use Rattle.x509_issuing.specs.BuiltCertificate.{IsTbsFor}
use Rattle.x509_issuing.specs.Building.{algorithm_step, build_steps, given_steps, identifier_step, message_of}
use Rattle.x509_issuing.specs.Building.{octets_step, signature_step, steps_by, subject_steps, tbs_written, whole_step}
use Rattle.x509_issuing.specs.OwnedRequest.{KeptRequest}
use Rattle.names_core.specs.declared.name.DirectoryName.{DirectoryName}
use Rattle.key_core.specs.declared.public_key.PublicKey.{PublicKey}
use Rattle.x509_issuing.specs.declared.builder.CertificateBuilder.{CertificateBuilder}
use Rattle.x509_issuing.specs.declared.builder.IssuerInfos.{IssuerInfos}
use Rattle.x509_issuing.specs.declared.builder.SubjectInfos.{SubjectInfos}
use Rattle.x509_issuing.specs.declared.builder.SubjectInfos.TheVariants as subjects
use Rattle.demo_core.specs.Builders.{HasSubject, IsStepBuilder, IsYearGiven}
use Rattle.demo_core.specs.Certificates.{signer_of}
use Rattle.key_core.specs.SmallKeys.{demo_pair, signs_by_demo}
use Rattle.demo_core.specs.Secrets.{step_modulus, step_secret}
use Rattle.demo_core.specs.declared.history.Step.{Step}
use Rattle.key_core.proofs.SmallRefusals.{half_or_memory, identifier_or_memory, signature_or_memory}
use Rattle.demo_core.proofs.StepSubjects.{four_octets}
use Rattle.der_core.proofs.Sizes.{only_memory}
use Rattle.demo_core.proofs.StepBuilding.{certificate_small, tbs_small}
use Rattle.demo_core.proofs.StepTbs.{subject_is}

-- each step is refused for memory alone
abbrev AreSure : List (BuildStep CertError) → Type 0
AreSure [] = ⊤
AreSure (step ∷ steps) = ((e : CertError) → step.refused e → e ≡ errors.Memory) × AreSure steps

sure : (steps : List (BuildStep CertError)) (e : CertError) → AreSure steps → IsFirstUntaken steps e → e ≡ errors.Memory
sure [] e are untaken = absurd untaken
sure (step ∷ steps) e are (inl refused) = are.0 e refused
sure (step ∷ steps) e are (inr (taken, later)) = sure steps e are.1 later

pub sure_or_memory : (steps : List (BuildStep CertError)) (e : CertError) → AreSure steps → RefusesBySteps errors.Memory steps e → e ≡ errors.Memory
sure_or_memory steps e are (inl untaken) = sure steps e are untaken
sure_or_memory steps e are (inr memory) = memory

is_given : {X : Type 0} (o : Option X) (x : X) → o ≡ Some x → o ≡ None → ⊥
is_given o x e none = absurd cc

year_given : (year : ℕ) (o : Option GeneralizedTime) → IsYearGiven year o → o ≡ None → ⊥
year_given year o is none = subst (IsYearGiven year) none is

not_both : (given : DirectoryName) (own : PublicKey) (csr : KeptRequest) (o : Option SubjectInfos) → o ≡ Some (subjects.Named given own)
    → o ≡ Some (subjects.Request csr) → ⊥
not_both given own csr o named requested = absurd cc

some_none : {x : List ℕ} → Some x ≡ None → ⊥
some_none e = absurd cc

algorithm_or_memory : (source : SignatureError) → IsUnwritable (RsaPkcs1v15 SHA2_256) source → source ≡ signature_errors.Memory
algorithm_or_memory source (inl none) = absurd (some_none none.0)
algorithm_or_memory source (inr memory) = memory

-- the subject's steps, by whether the issuer is the subject
subjects_sure : (index : ℕ) (step_issuer : Option ℕ) (signer : ℕ) (b : CertificateBuilder) (issuer : IssuerInfos) (later : List (BuildStep CertError))
    → HasSubject index step_issuer b issuer → IsPrivatePkcs1 (step_secret signer) issuer.key.now → AreSure later
    → AreSure (subject_steps demo_verdict issuer.self_signed b issuer ++ later)
subjects_sure index None signer b issuer later self key are =
    subst (λ (s : Bool). AreSure (subject_steps demo_verdict s b issuer ++ later)) (sym self)
    ((λ e refused. refused.1 ∙ ap no_half (half_or_memory (step_modulus signer) issuer.key.now refused.0 key refused.2)), are)
subjects_sure index (Some one) signer b issuer later (other, to) key are =
    subst (λ (s : Bool). AreSure (subject_steps demo_verdict s b issuer ++ later)) (sym other) (
      (λ e refused. absurd (is_given b.authority_key_identifier _ to.authority refused.0)),
      (
        (λ e refused. absurd (is_given b.subject_infos _ to.subject refused.0)),
        ((λ e refused. absurd (not_both _ _ _ b.subject_infos to.subject refused.1)), are),
      ),
    )

pub built_or_memory : (index : ℕ) (step : Step) (b : CertificateBuilder) (issuer : IssuerInfos) (e : CertError) → index < 255
    → signer_of index step.issuer < 255
    → IsUtcYear step.years.first → IsUtcYear step.years.last → IsStepBuilder index step b issuer
    → RefusesBySteps errors.Memory (build_steps (arithmetic demo_verdict signs_by_demo demo_pair) b (index + 1)) e → e ≡ errors.Memory
built_or_memory index step b issuer e small small_signer first last set refuses =
    let signer = signer_of index step.issuer in
    let private = set.keys.private in
    let identifier : (x : CertError) → (identifier_step demo_verdict b issuer).refused x → x ≡ errors.Memory =
    λ x (named, info, subject, (source, is, refused)).
    let of = subject_is index step.issuer b issuer named info set.subject set.named private subject in
    is ∙ ap no_key_id (identifier_or_memory (step_modulus index) (four_octets index) of.private info source of.keys
    (subst (λ (m : KeyIdGenMethod). RefusesKeyIdentifier m info source) set.method refused)) in
    let algorithm : (x : CertError) → (algorithm_step b).refused x → x ≡ errors.Memory =
    λ x (source, is, refused). is
    ∙ ap signature_refusal (algorithm_or_memory source (subst (λ (a : SignatureAlgorithm). IsUnwritable a source) set.algorithm refused)) in
    let octets : (x : CertError) → (octets_step (arithmetic demo_verdict signs_by_demo demo_pair) b.signature_hash_type issuer.key.now
    (IsTbsFor demo_verdict b issuer (index + 1))).refused x → x ≡ errors.Memory =
    λ x (tbs, of, (source, is, refused)). is
    ∙ ap no_octets (only_memory (tbs_written tbs) source (tbs_small index step b issuer tbs small small_signer first last set of) refused) in
    let signature : (x : CertError) → (signature_step (arithmetic demo_verdict signs_by_demo demo_pair) b.signature_hash_type issuer.key.now
    (IsTbsFor demo_verdict b issuer (index + 1))).refused x → x ≡ errors.Memory =
    λ x (tbs, of, (source, is, refused)). is
    ∙ ap no_signature (signature_or_memory (step_modulus signer) (four_octets signer) issuer.key.now (message_of tbs) source private
    (subst (λ (a : SignatureAlgorithm). RefusesSignatureBy (sign_rules signs_by_demo a issuer.key.now (message_of tbs)) source) set.algorithm refused)) in
    let whole : (x : CertError)
    → (whole_step (arithmetic demo_verdict signs_by_demo demo_pair) b.signature_hash_type issuer.key.now (IsTbsFor demo_verdict b issuer (index + 1))).refused x
    → x ≡ errors.Memory =
    λ x (c, of, (source, is, refused)). is ∙ ap (unwritten elements.Certificate)
    (only_memory (written_elements c) source (certificate_small index step b issuer c small small_signer first last set of) refused) in
    let later : AreSure (steps_by (arithmetic demo_verdict signs_by_demo demo_pair) b (index + 1) (Some issuer)) =
    subjects_sure index step.issuer signer b issuer _ set.subject private
    (identifier, (algorithm, (octets, (signature, (whole, tt))))) in
    let all : AreSure (build_steps (arithmetic demo_verdict signs_by_demo demo_pair) b (index + 1)) =
    subst (λ (o : Option IssuerInfos). AreSure (given_steps b ++ steps_by (arithmetic demo_verdict signs_by_demo demo_pair) b (index + 1) o)) (sym set.given) (
      (λ x refused. absurd (year_given step.years.first b.valid_from set.begins refused.0)),
      (
        (λ x refused. absurd (year_given step.years.last b.valid_to set.ends refused.0)),
        ((λ x refused. absurd (is_given b.issuer_infos issuer set.given refused.0)), later),
      ),
    ) in
    sure_or_memory (build_steps (arithmetic demo_verdict signs_by_demo demo_pair) b (index + 1)) e all refuses
