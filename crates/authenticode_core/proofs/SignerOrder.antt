-- The rules for the signer's certificate: what meets them, and which is broken first.
use Rattle.std.proofs.Common.{◌≡◌, ◌⊎◌, ◌↔◌, ℕ, List, [], ◌∷◌, Bool, Option, Some, None, Result, Ok, Err}
use Rattle.std.proofs.Common.{MatchResult, MatchOption, IsTrue, true, false, inl, inr, refl, sym, ap, subst, ◌∙◌}
use Rattle.cms_types.specs.SignedDataElements.{SignedDataElements}
use Rattle.cms_types.specs.SignerElements.{SignerElements}
use Rattle.cms_types.specs.SignerInfo.{signer_elements}
use Rattle.der_core.specs.DerElement.{DerElement}
use Rattle.der_core.specs.Rules.{Rule, IsMet, IsFirstBroken}
use Rattle.der_core.proofs.RuleLists.{AreMet, broken_before, broken_behind}
use Rattle.key_core.specs.Verifying.{Judge}
use Rattle.names_core.specs.declared.name.DirectoryName.{DirectoryName}
use Rattle.x509_core.proofs.OneLink.{window_once}
use Rattle.x509_core.proofs.Validity.{expired_is_returned, returned_is_expired, valid_is_met}
use Rattle.x509_core.specs.Chain.{IsDated, LacksDate}
use Rattle.x509_core.specs.Facts.Certs.{same_kept}
use Rattle.x509_core.specs.OwnedCertificate.{KeptCertificate}
use Rattle.x509_core.specs.Link.{IsOutside}
use Rattle.x509_core.specs.Rules.{Breaks}
use Rattle.x509_core.specs.Window.{IsExpired, IsWithinWindow, window_rules}
use Rattle.x509_core.specs.declared.error.CertCause.{CertCause}
use Rattle.x509_core.specs.declared.error.CertCause.TheVariants as causes
use Rattle.x509_core.specs.declared.error.CertError.{CertError}
use Rattle.x509_core.specs.declared.error.CertError.TheVariants as cert_errors
use Rattle.x509_core.specs.declared.window.Window.{Window}
use Rattle.x509_types.specs.CertificateElements.{CertificateElements}
use Rattle.authenticode_core.specs.ContentRefusal.{of_certificates}
use Rattle.authenticode_core.specs.Inside.Form.{AreSpelled}
use Rattle.authenticode_core.specs.Excuses.{HasBadStamp, HasNoExcuse, HasReason}
use Rattle.authenticode_core.specs.Inside.PolicySteps.{IsExpiry, IsUnlinkedPath, ReportsExpiry, valid_and_vouched_rules, validity_rules}
use Rattle.authenticode_core.specs.Inside.SigningSteps.{HasSigner}
use Rattle.authenticode_core.specs.IssuerWalk.{IsIssuerPath}
use Rattle.authenticode_core.specs.LinkedPath.{IsPathAsked, IsUnlinkedAt, IsVouchedPath}
use Rattle.authenticode_core.specs.Policy.{policy_checks, window_of}
use Rattle.authenticode_core.specs.SignedFields.{IsFirstSigner, signers_of}
use Rattle.authenticode_core.specs.SignerRules.{HasKeyName, HasUnknownName, IsBadlyStamped, IsKeptSigner, IsSignerVouched, IsValidAndVouched}
use Rattle.authenticode_core.specs.SignerRules.{IsUnbegun, IsUndated, IsUnexcused, IsUnvouched, IsValidOrExcusable, LacksSigner, signer_rules}
use Rattle.authenticode_core.specs.SigningRules.{HasNoCertificate, IsBagOf, IsNamedByKey, IsSignerCertificate, RefusesAuthenticodeBy}
use Rattle.authenticode_core.specs.declared.accepted.Accepted.{Accepted}
use Rattle.authenticode_core.specs.declared.accepted.Excuse.{Excuse}
use Rattle.authenticode_core.specs.declared.accepted.Excuse.TheVariants as excuses
use Rattle.authenticode_core.specs.declared.error.AuthenticodeError.{AuthenticodeError}
use Rattle.authenticode_core.specs.declared.error.AuthenticodeError.TheVariants as errors
use Rattle.authenticode_core.specs.declared.policy.Policy.{Policy}
use Rattle.authenticode_core.proofs.FormFields.{signer_is_spelled, signer_once as first_once}
use Rattle.authenticode_core.proofs.OneExcuse.{bad_stamp_is_no_reason, bad_stamp_is_returned, reason_or_not}
use Rattle.authenticode_core.proofs.OneSigning.{certificate_is_met, named_is_met, same_bag, signer_once}

-- ---- the signer's certificate is unique

-- what holds for a bag and the signer's certificate in it holds for each such pair
pub moved : (Says : List CertificateElements → KeptCertificate → Type 0) (f : SignedDataElements) (a b : List CertificateElements) (p q : ℕ)
    (s t : KeptCertificate) → IsKeptSigner f a p s → IsKeptSigner f b q t → Says a s → Says b t
moved Says f a b p q s t here there said =
    let same = signer_once f a b p q s.elements t.elements here.is_bag there.is_bag here.is_signer there.is_signer in
    subst (λ (signer : KeptCertificate). Says b signer) (same_kept s t (sym same.1))
    (subst (λ (bag : List CertificateElements). Says bag s) (same_bag f a b here.is_bag there.is_bag) said)

-- ---- which certificate it is

some_signers : (signers others : List DerElement) (first : DerElement) → signers ≡ first ∷ others → signers ≡ [] → ⊥
some_signers signers others first is none =
    let same : first ∷ others ≡ [] = sym is ∙ none in
    absurd cc

pub first_met : (f : SignedDataElements) (g : SignerElements) → IsFirstSigner f g → IsMet (LacksSigner f)
first_met f g first = λ e broken. some_signers (signers_of f) first.others _ first.first broken.0

pub key_name_met : (f : SignedDataElements) (g : SignerElements) → IsFirstSigner f g → IsMet (IsNamedByKey g) → IsMet (HasKeyName f)
key_name_met f g first met = λ e broken. met e (subst (λ (x : SignerElements). IsNamedByKey x e) (first_once f broken.0 g broken.1 first) broken.2)

abbrev pub named_rules : SignedDataElements → List (Rule AuthenticodeError)
named_rules f = LacksSigner f ∷ HasKeyName f ∷ HasUnknownName f ∷ []

pub named_met : (f : SignedDataElements) (bag : List CertificateElements) (place : ℕ) (c : CertificateElements) → IsBagOf f bag
    → IsSignerCertificate f bag place c → AreMet (named_rules f)
named_met f bag place c is_bag is_signer = (
  λ e broken. some_signers (signers_of f) is_signer.fits.others _ is_signer.fits.first broken.0,
  (
    λ e broken. named_is_met f broken.0 bag place c broken.1 is_signer e broken.2,
    (λ e broken. certificate_is_met f broken.0 bag place c is_bag is_signer e broken.2, tt),
  ),
)

pub dated_met : (policy : Policy) → IsDated (policy_checks policy) → IsMet (IsUndated policy)
dated_met policy dated = λ e broken. dated broken.1.0 broken.1.1

-- there is no signer
no_signer_in : (f : SignedDataElements) (signers : List DerElement) → AreSpelled f → signers_of f ≡ signers → ((g : SignerElements) → IsFirstSigner f g → ⊥)
    → LacksSigner f (errors.MultipleSignerInfo 0)
no_signer_in f [] spelled are none = (are, refl)
no_signer_in f (first ∷ others) spelled are none =
    let v = signer_is_spelled f first others spelled are in
    absurd (none (signer_elements v.0) (record { value = v.0; others = others; is = refl; first = are ∙ ap (λ (x : DerElement). x ∷ others) v.1 }))

pub lacks_signer : (f : SignedDataElements) → AreSpelled f → ((g : SignerElements) → IsFirstSigner f g → ⊥) → LacksSigner f (errors.MultipleSignerInfo 0)
lacks_signer f spelled none = no_signer_in f (signers_of f) spelled refl none

-- ---- what is reported of certificates

pub certificates_or_memory : (e : CertError) → (of_certificates e ≡ errors.CertError e) ⊎ (e ≡ cert_errors.Memory)
certificates_or_memory (cert_errors.CertGeneration source) = inl refl
certificates_or_memory (cert_errors.InvalidCertificate id source) = inl refl
certificates_or_memory (cert_errors.Asn1Serialization element source) = inl refl
certificates_or_memory (cert_errors.Asn1Deserialization element source) = inl refl
certificates_or_memory (cert_errors.Signature source) = inl refl
certificates_or_memory (cert_errors.KeyIdGen source) = inl refl
certificates_or_memory (cert_errors.InvalidChain source) = inl refl
certificates_or_memory (cert_errors.InvalidCsr source) = inl refl
certificates_or_memory (cert_errors.ExtensionNotFound name) = inl refl
certificates_or_memory (cert_errors.MissingBuilderArgument arg) = inl refl
certificates_or_memory (cert_errors.CertificateNotYetValid not_before now) = inl refl
certificates_or_memory (cert_errors.CertificateExpired not_after now) = inl refl
certificates_or_memory (cert_errors.PrivateKeyToPublicKey source) = inl refl
certificates_or_memory cert_errors.Memory = inr refl

undated_returned : (policy : Policy) (cause : CertError) → LacksDate (policy_checks policy) cause → of_certificates cause ≡ errors.CertError cause
undated_returned policy cause lacks = ap of_certificates lacks.2 ∙ sym (ap errors.CertError lacks.2)

outside_returned : (w : Window) (signer : KeptCertificate) (cause : CertError) → IsOutside w signer cause → of_certificates cause ≡ errors.CertError cause
outside_returned w signer cause outside = ap of_certificates outside.returned ∙ sym (ap errors.CertError outside.returned)

-- ---- expired certificates, and what is reported of them

pub valid_or_expired : (w : Window) (c : CertificateElements) → IsWithinWindow w c → IsExpired w c → ⊥
valid_or_expired w c valid expired = valid.lasts expired.1.2.asked expired.1.0 expired.1.1 expired.1.2.ends expired.1.2.first expired.1.2.passed

same_cause : (a b : DirectoryName) (x y : CertCause) → cert_errors.InvalidCertificate a x ≡ cert_errors.InvalidCertificate b y → x ≡ y
same_cause a b x y e = cc

pub expired_if_returned : (w : Window) (signer : KeptCertificate) (cause : CertError) → IsOutside w signer cause → ReportsExpiry cause
    → IsExpired w signer.elements
expired_if_returned w signer cause outside returns =
    let same : outside.cause ≡ causes.CertificateExpired returns.2.0 returns.2.1 =
    same_cause outside.id returns.0 outside.cause returns.1 (sym outside.returned ∙ returns.3) ∙ returns.2.2 in
    returned_is_expired w signer.elements
    (returns.2.0, returns.2.1, subst (λ (x : CertCause). IsFirstBroken (window_rules w signer.elements) x) same outside.broken)

unexpired_if_unreported : (w : Window) (signer : KeptCertificate) (cause : CertError) → IsOutside w signer cause → (ReportsExpiry cause → ⊥)
    → IsExpired w signer.elements → ⊥
unexpired_if_unreported w signer cause outside unreported expired =
    let returned = expired_is_returned w signer.elements expired in
    let same : outside.cause ≡ causes.CertificateExpired returned.0 returned.1 =
    window_once w signer.elements outside.cause (causes.CertificateExpired returned.0 returned.1) outside.broken returned.2 in
    unreported (outside.id, outside.cause, (returned.0, returned.1, same), outside.returned)

-- the value of an option, or that it has none
pub given : {X : Type 0} (o : Option X) (x : X) (N : Type 0) (P : X → Type 0) → o ≡ Some x → MatchOption o N P → P x
given None x N P e m = absurd (cc e)
given (Some y) x N P e m =
    let same : y ≡ x = cc e in
    subst P same m

pub none_given : {X : Type 0} (o : Option X) (N : Type 0) (P : X → Type 0) → o ≡ None → MatchOption o N P → N
none_given None N P e m = m
none_given (Some y) N P e m = absurd (cc e)

-- ---- refusals before the certificate is read

module _ (judge : Judge) (policy : Policy) (f : SignedDataElements) where
  pub no_signer : (e : AuthenticodeError) → LacksSigner f e → RefusesAuthenticodeBy (signer_rules judge policy f) e
  no_signer e broken = inl (inl broken)

  pub unnamed : (g : SignerElements) (e : AuthenticodeError) → IsFirstSigner f g → RefusesAuthenticodeBy (IsNamedByKey g ∷ HasNoCertificate f g ∷ []) e
      → RefusesAuthenticodeBy (signer_rules judge policy f) e
  unnamed g e first (inl (inl broken)) = inl (inr (first_met f g first, inl (g, first, broken)))
  unnamed g e first (inl (inr (met, inl broken))) = inl (inr (first_met f g first, inr (key_name_met f g first met, inl (g, first, broken))))
  unnamed g e first (inl (inr (met, inr none))) = absurd none.1
  unnamed g e first (inr memory) = inr memory

  pub undated : (place : ℕ) (c : CertificateElements) (cause : CertError) → HasSigner f place c → LacksDate (policy_checks policy) cause
      → RefusesAuthenticodeBy (signer_rules judge policy f) (of_certificates cause)
  undated place c cause s lacks =
      inl (broken_behind (named_rules f) (IsUndated policy ∷ valid_and_vouched_rules judge policy f) (of_certificates cause) (named_met f s.0 place c s.1 s.2)
      (inl (cause, lacks, undated_returned policy cause lacks)))

  pub not_valid_and_vouched : (place : ℕ) (c : CertificateElements) (e : AuthenticodeError) → HasSigner f place c → IsDated (policy_checks policy)
      → RefusesAuthenticodeBy (valid_and_vouched_rules judge policy f) e → RefusesAuthenticodeBy (signer_rules judge policy f) e
  not_valid_and_vouched place c e s dated (inl broken) =
      inl (broken_behind (named_rules f) (IsUndated policy ∷ valid_and_vouched_rules judge policy f) e (named_met f s.0 place c s.1 s.2)
      (inr (dated_met policy dated, broken)))
  not_valid_and_vouched place c e s dated (inr memory) = inr memory

  -- ---- the rules for the signer's certificate

  abbrev pub UnbegunAt : AuthenticodeError → List CertificateElements → KeptCertificate → Type 0
  UnbegunAt e bag signer =
      (IsExpired (window_of policy) signer.elements → ⊥) × (cause : CertError) × IsOutside (window_of policy) signer cause × (e ≡ errors.CertError cause)

  abbrev pub UnexcusedAt : AuthenticodeError → List CertificateElements → KeptCertificate → Type 0
  UnexcusedAt e bag signer =
      IsExpired (window_of policy) signer.elements × HasNoExcuse f bag signer.elements × (cause : CertError) × IsOutside (window_of policy) signer cause
      × (e ≡ errors.CertError cause)

  abbrev pub StampedAt : AuthenticodeError → List CertificateElements → KeptCertificate → Type 0
  StampedAt e bag signer = IsExpired (window_of policy) signer.elements × HasBadStamp judge policy f bag signer.elements e

  abbrev pub UnvouchedAt : AuthenticodeError → List CertificateElements → KeptCertificate → Type 0
  UnvouchedAt e bag signer =
      IsTrue policy.chain × (path : List ℕ) × (cause : CertError) × IsIssuerPath bag signer.elements path
      × IsUnlinkedAt judge (window_of policy) bag signer path cause
      × (e ≡ errors.CertError cause)

  module _ (bag : List CertificateElements) (place : ℕ) (signer : KeptCertificate) (is : IsKeptSigner f bag place signer) where
    pub unbegun_at : (e : AuthenticodeError) → IsUnbegun policy f e → UnbegunAt e bag signer
    unbegun_at e broken =
        moved (UnbegunAt e) f broken.bag bag broken.place place broken.signer signer broken.is is
        (broken.unexpired, broken.cause, broken.outside, broken.returned)

    pub unexcused_at : (e : AuthenticodeError) → IsUnexcused policy f e → UnexcusedAt e bag signer
    unexcused_at e broken =
        moved (UnexcusedAt e) f broken.bag bag broken.place place broken.signer signer broken.is is
        (broken.expired, broken.unexcused, broken.cause, broken.outside, broken.returned)

    pub stamped_at : (e : AuthenticodeError) → IsBadlyStamped judge policy f e → StampedAt e bag signer
    stamped_at e broken = moved (StampedAt e) f broken.bag bag broken.place place broken.signer signer broken.is is (broken.expired, broken.stamp)

    pub unvouched_at : (e : AuthenticodeError) → IsUnvouched judge policy f e → UnvouchedAt e bag signer
    unvouched_at e broken =
        moved (UnvouchedAt e) f broken.bag bag broken.place place broken.signer signer broken.is is
        (broken.asked, broken.path, broken.cause, broken.is_path, broken.unlinked, broken.returned)

    -- ---- what meets them

    pub begun_met : IsExpired (window_of policy) signer.elements → IsMet (IsUnbegun policy f)
    begun_met expired = λ e broken. (unbegun_at e broken).0 expired

    valid_met : IsWithinWindow (window_of policy) signer.elements → AreMet (validity_rules judge policy f)
    valid_met valid = (
      λ e broken. let there = unbegun_at e broken in valid_is_met (window_of policy) signer.elements there.2.cause valid there.2.broken,
      (
        λ e broken. valid_or_expired (window_of policy) signer.elements valid (unexcused_at e broken).0,
        (λ e broken. valid_or_expired (window_of policy) signer.elements valid (stamped_at e broken).0, tt),
      ),
    )

    excuse_met : (x : Excuse) → IsExpired (window_of policy) signer.elements → HasReason judge policy f bag signer.elements x
        → AreMet (validity_rules judge policy f)
    excuse_met x expired reason = (
      begun_met expired,
      (
        λ e broken. reason_or_not judge policy f bag signer.elements x reason (unexcused_at e broken).1,
        (λ e broken. bad_stamp_is_no_reason judge policy f bag signer.elements e x (stamped_at e broken).1 reason, tt),
      ),
    )

    -- a certificate that is valid, or may be excused, breaks no rule before that of the issuer path
    pub validity_met : (x : Excuse) → IsValidOrExcusable judge policy f bag signer.elements x → AreMet (validity_rules judge policy f)
    validity_met excuses.None valid = valid_met valid
    validity_met excuses.Bag valid = excuse_met excuses.Bag valid.0 valid.1
    validity_met excuses.Token valid = excuse_met excuses.Token valid.0 valid.1

    pub unexcused_met : (e : AuthenticodeError) → HasBadStamp judge policy f bag signer.elements e → IsMet (IsUnexcused policy f)
    unexcused_met e stamp = λ x broken. bad_stamp_is_returned judge policy f bag signer.elements e stamp (unexcused_at x broken).1

    -- ---- refusals

    pub unbegun : (cause : CertError) → IsOutside (window_of policy) signer cause → (ReportsExpiry cause → ⊥)
        → RefusesAuthenticodeBy (validity_rules judge policy f) (of_certificates cause)
    unbegun cause outside unreported = inl (inl (record {
      bag = bag;
      place = place;
      signer = signer;
      is = is;
      unexpired = unexpired_if_unreported (window_of policy) signer cause outside unreported;
      cause = cause;
      outside = outside;
      returned = outside_returned (window_of policy) signer cause outside;
    }))

    pub unexcused : (cause : CertError) → IsOutside (window_of policy) signer cause → IsExpired (window_of policy) signer.elements
        → HasNoExcuse f bag signer.elements → RefusesAuthenticodeBy (validity_rules judge policy f) (of_certificates cause)
    unexcused cause outside expired none = inl (inr (
      begun_met expired,
      inl (record {
        bag = bag;
        place = place;
        signer = signer;
        is = is;
        expired = expired;
        unexcused = none;
        cause = cause;
        outside = outside;
        returned = outside_returned (window_of policy) signer cause outside;
      }),
    ))

    pub badly_stamped : (e : AuthenticodeError) → IsExpired (window_of policy) signer.elements → HasBadStamp judge policy f bag signer.elements e
        → RefusesAuthenticodeBy (validity_rules judge policy f) e
    badly_stamped e expired stamp =
        inl (inr
        (begun_met expired, inr (unexcused_met e stamp, inl (record { bag = bag; place = place; signer = signer; is = is; expired = expired; stamp = stamp }))))

    -- one of these rules is one of those before that of the issuer path
    pub before_path : (e : AuthenticodeError) → RefusesAuthenticodeBy (validity_rules judge policy f) e
        → RefusesAuthenticodeBy (valid_and_vouched_rules judge policy f) e
    before_path e (inl broken) = inl (broken_before (validity_rules judge policy f) (IsUnvouched judge policy f ∷ []) e broken)
    before_path e (inr memory) = inr memory

    unvouched_returned : (x : Excuse) (cause : CertError) → IsValidOrExcusable judge policy f bag signer.elements x → IsTrue policy.chain
        → IsUnlinkedPath judge (window_of policy) bag signer cause → (of_certificates cause ≡ errors.CertError cause) ⊎ (cause ≡ cert_errors.Memory)
        → RefusesAuthenticodeBy (valid_and_vouched_rules judge policy f) (of_certificates cause)
    unvouched_returned x cause valid asked unlinked (inl returned) =
        inl (broken_behind (validity_rules judge policy f) (IsUnvouched judge policy f ∷ []) (of_certificates cause) (validity_met x valid) (inl (record {
          bag = bag;
          place = place;
          signer = signer;
          is = is;
          excuse = x;
          valid = valid;
          asked = asked;
          path = unlinked.0;
          is_path = unlinked.1;
          cause = cause;
          unlinked = unlinked.2;
          returned = returned;
        })))
    unvouched_returned x cause valid asked unlinked (inr memory) = inr (ap of_certificates memory)

    pub unvouched : (x : Excuse) (cause : CertError) → IsValidOrExcusable judge policy f bag signer.elements x → IsTrue policy.chain
        → IsUnlinkedPath judge (window_of policy) bag signer cause → RefusesAuthenticodeBy (valid_and_vouched_rules judge policy f) (of_certificates cause)
    unvouched x cause valid asked unlinked = unvouched_returned x cause valid asked unlinked (certificates_or_memory cause)

    -- ---- certificates that aren't valid

    expired_by : (cause : CertError) → Breaks (IsOutside (window_of policy) signer) cause → ReportsExpiry cause → IsOutside (window_of policy) signer cause
    expired_by cause (inl outside) returns = outside
    expired_by cause (inr memory) returns =
        let other : cert_errors.InvalidCertificate returns.0 returns.1 ≡ cert_errors.Memory = sym returns.3 ∙ memory in
        absurd cc

    pub has_expired : (cause : CertError) → Breaks (IsOutside (window_of policy) signer) cause → ReportsExpiry cause
        → IsExpired (window_of policy) signer.elements
    has_expired cause breaks returns = expired_if_returned (window_of policy) signer cause (expired_by cause breaks returns) returns

    pub unbegun_or_memory : (cause : CertError) → Breaks (IsOutside (window_of policy) signer) cause → (ReportsExpiry cause → ⊥)
        → RefusesAuthenticodeBy (validity_rules judge policy f) (of_certificates cause)
    unbegun_or_memory cause (inl outside) unreported = unbegun cause outside unreported
    unbegun_or_memory cause (inr memory) unreported = inr (ap of_certificates memory)

    pub no_excuse : (cause : CertError) → Breaks (IsOutside (window_of policy) signer) cause → ReportsExpiry cause → HasNoExcuse f bag signer.elements
        → RefusesAuthenticodeBy (validity_rules judge policy f) (of_certificates cause)
    no_excuse cause breaks returns none = unexcused cause (expired_by cause breaks returns) (has_expired cause breaks returns) none

    pub stamped_or_memory : (cause : CertError) (e : AuthenticodeError) → Breaks (IsOutside (window_of policy) signer) cause → ReportsExpiry cause
        → HasBadStamp judge policy f bag signer.elements e ⊎ (e ≡ errors.Memory)
        → RefusesAuthenticodeBy (validity_rules judge policy f) e
    stamped_or_memory cause e breaks returns (inl stamp) = badly_stamped e (has_expired cause breaks returns) stamp
    stamped_or_memory cause e breaks returns (inr memory) = inr memory

    pub unvouched_or_memory : (x : Excuse) (cause : CertError) → IsValidOrExcusable judge policy f bag signer.elements x
        → (IsTrue policy.chain × IsUnlinkedPath judge (window_of policy) bag signer cause) ⊎ (cause ≡ cert_errors.Memory)
        → RefusesAuthenticodeBy (valid_and_vouched_rules judge policy f) (of_certificates cause)
    unvouched_or_memory x cause valid (inl (asked, unlinked)) = unvouched x cause valid asked unlinked
    unvouched_or_memory x cause valid (inr memory) = inr (ap of_certificates memory)

    -- ---- acceptance

    pub reason_is_enough : (x : Excuse) → IsExpired (window_of policy) signer.elements → HasReason judge policy f bag signer.elements x
        → IsValidOrExcusable judge policy f bag signer.elements x
    reason_is_enough excuses.None expired reason = absurd reason
    reason_is_enough excuses.Bag expired reason = (expired, reason)
    reason_is_enough excuses.Token expired reason = (expired, reason)

    -- the certificate passes if it is valid or may be excused, and its issuer path is linked if the
    -- chain is checked
    pub stands_over : (path : List ℕ) (x : Excuse) → IsValidOrExcusable judge policy f bag signer.elements x
        → IsPathAsked policy.chain judge (window_of policy) bag signer path → IsValidAndVouched judge policy f bag signer path x
    stands_over path excuses.None valid linked = record { begun = valid.begun; lasts = valid.lasts; path_is = linked }
    stands_over path excuses.Bag valid linked = record { begun = valid.0.0; lasts = (valid.0, record { reason = valid.1; path_is = linked }); path_is = linked }
    stands_over path excuses.Token valid linked = record {
      begun = valid.0.0;
      lasts = (valid.0, record { reason = valid.1; path_is = linked });
      path_is = linked;
    }

    pub vouched_is_valid : (path : List ℕ) (x : Excuse) → IsValidAndVouched judge policy f bag signer path x
        → IsValidOrExcusable judge policy f bag signer.elements x
    vouched_is_valid path excuses.None stands = record { begun = stands.begun; lasts = stands.lasts }
    vouched_is_valid path excuses.Bag stands = (stands.lasts.0, stands.lasts.1.reason)
    vouched_is_valid path excuses.Token stands = (stands.lasts.0, stands.lasts.1.reason)

    pub vouched_or_not : IsDated (policy_checks policy) → (r : Result Accepted AuthenticodeError)
        → MatchResult r (λ a. (a.signer ≡ Some place) × IsValidAndVouched judge policy f bag signer a.path a.excuse)
        (RefusesAuthenticodeBy (valid_and_vouched_rules judge policy f))
        → MatchResult r (IsSignerVouched judge policy f) (RefusesAuthenticodeBy (signer_rules judge policy f))
    vouched_or_not dated (Ok a) h = record { bag = bag; place = place; signer = signer; is = is; place_is = h.0; dated = dated; valid = h.1 }
    vouched_or_not dated (Err e) h = not_valid_and_vouched place signer.elements e (bag, is.is_bag, is.is_signer) dated h

-- the stored certificate of the signer
pub kept_signer : (f : SignedDataElements) (place : ℕ) (c : CertificateElements) (signer : KeptCertificate) (s : HasSigner f place c) → signer.elements ≡ c
    → IsKeptSigner f s.0 place signer
kept_signer f place c signer s same = record { is_bag = s.1; is_signer = subst (λ (x : CertificateElements). IsSignerCertificate f s.0 place x) (sym same) s.2 }

-- ---- whether expiry is reported

pub returns_so : (e : CertError) (id : DirectoryName) (cause : CertCause) (t : Bool) → e ≡ cert_errors.InvalidCertificate id cause → (IsTrue t ↔ IsExpiry cause)
    → IsTrue t ↔ ReportsExpiry e
returns_so e id cause t is test = (
  λ on. (id, cause, test.0 on, is),
  λ returns. test.1 (subst IsExpiry (same_cause returns.0 id returns.1 cause (sym returns.3 ∙ is)) returns.2),
)

-- ---- with and without the chain

module _ (judge : Judge) (w : Window) (bag : List CertificateElements) (signer : KeptCertificate) where
  pub unasked_path : (b : Bool) (path : List ℕ) → b ≡ false → path ≡ [] → IsPathAsked b judge w bag signer path
  unasked_path true path off empty = absurd cc
  unasked_path false path off empty = empty

  pub asked_path : (b : Bool) (r : Result (List ℕ) CertError) → b ≡ true
      → MatchResult r (IsVouchedPath judge w bag signer) (λ e. IsUnlinkedPath judge w bag signer e ⊎ (e ≡ cert_errors.Memory))
      → MatchResult r (IsPathAsked b judge w bag signer) (λ e. (IsTrue b × IsUnlinkedPath judge w bag signer e) ⊎ (e ≡ cert_errors.Memory))
  asked_path true (Ok path) on vouched = vouched
  asked_path true (Err e) on (inl unlinked) = inl (refl, unlinked)
  asked_path true (Err e) on (inr memory) = inr memory
  asked_path false r on answer = absurd cc
