-- The subject of a certificate: which steps are taken if it is known.
use Rattle.std.proofs.Common.{◌≡◌, ◌⊎◌, ℕ, List, [], ◌∷◌, Bool, true, false, Option, Some, None, Result, Ok, Err, MatchResult, refl, sym, subst, inl, inr}
use Rattle.std.specs.Prelude.{IsSome}
use Rattle.key_types.specs.declared.key_info.SubjectPublicKeyInfo.{SubjectPublicKeyInfo}
use Rattle.key_core.specs.Verifying.{Judge}
use Rattle.key_core.specs.declared.public_key.PublicKey.{PublicKey}
use Rattle.names_core.specs.declared.name.DirectoryName.{DirectoryName}
use Rattle.x509_core.specs.declared.error.CertError.{CertError}
use Rattle.x509_core.specs.declared.error.CertError.TheVariants as errors
use Rattle.der_core.specs.Refusals.{Wraps}
use Rattle.der_core.specs.Steps.{AreTaken, RefusesBySteps}
use Rattle.x509_issuing.specs.BuildRefusals.{no_request}
use Rattle.x509_issuing.specs.BuiltCertificate.{IsGivenSubject, IsHalfOf, IsSubjectBy, NameSets}
use Rattle.x509_issuing.specs.Building.{half_step, other_steps, subject_steps}
use Rattle.x509_issuing.specs.CsrRefusals.{IsUnsigned}
use Rattle.x509_issuing.specs.OwnedRequest.{KeptRequest}
use Rattle.x509_issuing.specs.SelfSigned.{IsSelfSigned, RefusesSelfSigned}
use Rattle.x509_issuing.specs.declared.builder.CertificateBuilder.{CertificateBuilder}
use Rattle.x509_issuing.specs.declared.builder.IssuerInfos.{IssuerInfos}
use Rattle.x509_issuing.specs.declared.builder.SubjectInfos.{SubjectInfos}
use Rattle.x509_issuing.specs.declared.builder.SubjectInfos.TheVariants as subjects

other_request : (name : DirectoryName) (key : PublicKey) (csr : KeptRequest)
    → ◌≡◌ {A = Option SubjectInfos} (Some (subjects.Named name key)) (Some (subjects.Request csr)) → ⊥
other_request name key csr e = cc

same_request : (a b : KeptRequest) → ◌≡◌ {A = Option SubjectInfos} (Some (subjects.Request a)) (Some (subjects.Request b)) → a ≡ b
same_request a b e = cc

other_taken : (judge : Judge) (issuer : IssuerInfos) (authority : Option (List ℕ)) (subject : Option SubjectInfos) (name : NameSets)
    (key : SubjectPublicKeyInfo) → IsSubjectBy judge false issuer authority subject name key
    → IsSome authority × (IsSome subject × (((csr : KeptRequest) → subject ≡ Some (subjects.Request csr) → IsSelfSigned judge csr) × Unit {0}))
other_taken judge issuer None subject name key is = absurd is
other_taken judge issuer (Some authority) None name key is = absurd is
other_taken judge issuer (Some authority) (Some (subjects.Named given own)) name key is = (refl, (refl, (λ csr e. absurd (other_request given own csr e), tt)))
other_taken judge issuer (Some authority) (Some (subjects.Request asked)) name key is =
    (refl, (refl, (λ csr e. subst (IsSelfSigned judge) (same_request asked csr e) is.0, tt)))

-- if the subject is known, the steps to it are taken
pub subject_taken : (judge : Judge) (own : Bool) (b : CertificateBuilder) (issuer : IssuerInfos) (name : NameSets) (key : SubjectPublicKeyInfo)
    → IsSubjectBy judge own issuer b.authority_key_identifier b.subject_infos name key → AreTaken (subject_steps judge own b issuer)
subject_taken judge true b issuer name key is = ((key, is.1), tt)
subject_taken judge false b issuer name key is = other_taken judge issuer b.authority_key_identifier b.subject_infos name key is

subject_by : (judge : Judge) (issuer : IssuerInfos) (authority : Option (List ℕ)) (subject : Option SubjectInfos) (name : NameSets) (key : SubjectPublicKeyInfo)
    → IsSome authority → IsGivenSubject judge subject name key → IsSubjectBy judge false issuer authority subject name key
subject_by judge issuer None subject name key some given = let no : false ≡ true = some in absurd cc
subject_by judge issuer (Some authority) subject name key some given = given

-- the issuer is the subject, or it isn't
pub own_or_refused : (judge : Judge) (own : Bool) (b : CertificateBuilder) (issuer : IssuerInfos) (r : Result (DirectoryName × PublicKey) CertError)
    → own ≡ true
    → MatchResult r (λ subject. (subject.0.name ≡ issuer.name.name) × IsHalfOf issuer.key.now subject.1.info)
    (RefusesBySteps errors.Memory (half_step issuer.key.now ∷ []))
    → MatchResult r (λ subject. IsSubjectBy judge own issuer b.authority_key_identifier b.subject_infos subject.0.name subject.1.info)
    (RefusesBySteps errors.Memory (subject_steps judge own b issuer))
own_or_refused judge true b issuer r e is = is
own_or_refused judge false b issuer r e is = let no : false ≡ true = e in absurd cc

pub other_or_refused : (judge : Judge) (own : Bool) (b : CertificateBuilder) (issuer : IssuerInfos) (r : Result (DirectoryName × PublicKey) CertError)
    → own ≡ false
    → MatchResult r (λ subject. IsSome b.authority_key_identifier × IsGivenSubject judge b.subject_infos subject.0.name subject.1.info)
    (RefusesBySteps errors.Memory (other_steps judge b))
    → MatchResult r (λ subject. IsSubjectBy judge own issuer b.authority_key_identifier b.subject_infos subject.0.name subject.1.info)
    (RefusesBySteps errors.Memory (subject_steps judge own b issuer))
other_or_refused judge true b issuer r e is = let no : true ≡ false = e in absurd cc
other_or_refused judge false b issuer (Ok subject) e is =
    subject_by judge issuer b.authority_key_identifier b.subject_infos subject.0.name subject.1.info is.0 is.1
other_or_refused judge false b issuer (Err x) e is = is

-- a request that is signed by its own key, or refused
pub requested_or_refused : (judge : Judge) (b : CertificateBuilder) (csr : KeptRequest) (r : Result (DirectoryName × PublicKey) CertError)
    → IsSome b.authority_key_identifier → b.subject_infos ≡ Some (subjects.Request csr)
    → MatchResult r (λ subject. IsSelfSigned judge csr × (subject.0.name ≡ csr.request.certification_request_info.subject)
    × (subject.1.info ≡ csr.request.certification_request_info.subject_public_key_info))
    (λ e. Wraps no_request (IsUnsigned (RefusesSelfSigned judge csr)) e ⊎ (e ≡ errors.Memory))
    → MatchResult r (λ subject. IsSome b.authority_key_identifier × IsGivenSubject judge b.subject_infos subject.0.name subject.1.info)
    (RefusesBySteps errors.Memory (other_steps judge b))
requested_or_refused judge b csr (Ok subject) some given is =
    (some, subst (λ (o : Option SubjectInfos). IsGivenSubject judge o subject.0.name subject.1.info) (sym given) is)
requested_or_refused judge b csr (Err e) some given (inl returned) =
    inl (inr (some, inr (subst (λ (o : Option SubjectInfos). IsSome o) (sym given) refl, inl (csr, given, returned))))
requested_or_refused judge b csr (Err e) some given (inr memory) = inr memory
