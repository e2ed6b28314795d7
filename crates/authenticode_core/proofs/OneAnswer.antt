-- Each cause has one result.
use Rattle.std.proofs.Common.{◌≡◌, ◌⊎◌, ℕ, List, ◌++◌, Bool, length, drop, Result, Ok, Err, true, false, inl, inr, refl, sym, ◌∙◌, ap, subst}
use Rattle.std.specs.Prelude.{replicate}
use Rattle.std.proofs.lemmas.List.{drop_at, take-append-drop}
use Rattle.cms_types.specs.Pkcs7.{pkcs7}
use Rattle.cms_types.specs.SignedDataElements.{SignedDataElements}
use Rattle.der_core.specs.DerElement.{DerElement}
use Rattle.der_core.specs.Encoding.{encoding, IsPaddedEncoding}
use Rattle.der_core.specs.Facts.Fronts.{fronts}
use Rattle.der_core.specs.Fault.{IsFirstFault}
use Rattle.der_core.specs.Reading.{IsFirst, HasNoFirst}
use Rattle.der_core.specs.Rules.{IsFirstBroken, AreOneUnlessMemory}
use Rattle.der_core.specs.declared.error.DerError.{DerError}
use Rattle.der_core.specs.declared.error.DerError.TheVariants as der
use Rattle.der_core.specs.declared.fault.DerFault.{DerFault}
use Rattle.der_core.specs.declared.fault.Malformed.{Malformed}
use Rattle.der_core.proofs.RuleLists.{none_returns, one_broken}
use Rattle.key_core.specs.Verifying.{Judge}
use Rattle.key_core.specs.declared.element.Element.TheVariants.{Pkcs7}
use Rattle.wincert_core.specs.Refusal.{contents_in}
use Rattle.wincert_core.specs.declared.error.WinCertificateError.{WinCertificateError}
use Rattle.x509_core.specs.declared.error.CertError.TheVariants.{Asn1Deserialization}
use Rattle.authenticode_core.specs.Basic.{HasSignedData, IsNoSignedData, IsShapeless, IsMalformedPadded, IsUnreadSignature, RefusesValue}
use Rattle.authenticode_core.specs.ContentRefusal.{of_content}
use Rattle.authenticode_core.specs.SigningRules.{RefusesAuthenticodeBy}
use Rattle.authenticode_core.specs.Trusted.{IsAnswer, IsTrusted, RefusesForm, asked, policy_rules, shape_rules}
use Rattle.authenticode_core.specs.declared.accepted.Accepted.{Accepted}
use Rattle.authenticode_core.specs.declared.error.AuthenticodeError.{AuthenticodeError}
use Rattle.authenticode_core.specs.declared.error.AuthenticodeError.TheVariants as errors
use Rattle.authenticode_core.specs.declared.error.CheckError.{CheckError}
use Rattle.authenticode_core.specs.declared.error.CheckError.TheVariants.{Win, Authenticode, Memory}
use Rattle.authenticode_core.specs.declared.policy.Policy.{Policy}
use Rattle.authenticode_core.proofs.BasicOrder.{shape_returns_no_memory, shape_returned}
use Rattle.authenticode_core.proofs.OneData.{one_data, one_element, same_certificate}
use Rattle.authenticode_core.proofs.Padded.{IsFirst-padded}
use Rattle.authenticode_core.proofs.PolicyOrder.{asked_returned, one_trusted, policy_returned, shape_in_policy, trusted_unbroken}

-- Octets have at most one first fault, and none if they begin with an element.
abbrev pub FaultsAreOne : Type 0
FaultsAreOne = (octets : List ℕ) (p q : ℕ) (e f : DerFault) → IsFirstFault octets p e → IsFirstFault octets q f → (p ≡ q) × (e ≡ f)

abbrev pub FaultsExclude : Type 0
FaultsExclude = (octets : List ℕ) (p : ℕ) (e : DerFault) → IsFirstFault octets p e → HasNoFirst octets

-- ---- what the octets of a certificate are

one_first : (octets : List ℕ) (a b : DerElement) (m n : ℕ) → IsFirst octets a m → IsFirst octets b n → (a ≡ b) × (m ≡ n)
one_first octets a b m n first second =
    let same =
    fronts a b (drop m octets) (drop n octets) first.der.formed second.der.formed first.der.short second.der.short (split first ∙ sym (split second)) in
    (same.0, first.many ∙ ap (λ t. length (encoding t)) same.0 ∙ sym second.many) where
      split : {t : DerElement} {k : ℕ} → IsFirst octets t k → encoding t ++ drop k octets ≡ octets
      split {t} {k} h = ap (λ front. front ++ drop k octets) (sym h.front) ∙ take-append-drop k octets

abbrev malformed : ℕ → DerFault → Malformed
malformed place fault = record { at = place; fault = fault }

same_malformed : (m n : Malformed) → m.at ≡ n.at → m.fault ≡ n.fault → m ≡ n
same_malformed m n same_place same_fault =
    ap (λ place. malformed place m.fault) same_place ∙ ap (malformed n.at) same_fault

-- a header with a certificate has no refusal
named_once : (octets certificate : List ℕ) (e : WinCertificateError) → contents_in octets ≡ Ok certificate → contents_in octets ≡ Err e → ⊥
named_once octets certificate e named refused = absurd cc

-- ---- refusals are results

returned_or_memory : (e : AuthenticodeError) → (of_content e ≡ Authenticode e) ⊎ (e ≡ errors.Memory)
returned_or_memory (errors.CertError e) = inl refl
returned_or_memory (errors.IncorrectVersion expected got) = inl refl
returned_or_memory (errors.MultipleSignerInfo count) = inl refl
returned_or_memory (errors.IncorrectDigestAlgorithmsCount count) = inl refl
returned_or_memory errors.NoEncapsulatedContentInfo = inl refl
returned_or_memory errors.NoSpcIndirectDataContent = inl refl
returned_or_memory errors.DigestAlgorithmMismatch = inl refl
returned_or_memory (errors.FileHashMismatch actual expected) = inl refl
returned_or_memory errors.IncorrectSignerIdentifier = inl refl
returned_or_memory (errors.NoCertificatesAssociatedWithIssuerAndSerialNumber issuer serial_number) = inl refl
returned_or_memory (errors.UnsupportedAlgorithmError e) = inl refl
returned_or_memory (errors.SignatureError e) = inl refl
returned_or_memory errors.NoMessageDigest = inl refl
returned_or_memory (errors.UnsupportedHashAlgorithmError e) = inl refl
returned_or_memory (errors.HashMismatch actual expected) = inl refl
returned_or_memory errors.NoEKUCodeSigning = inl refl
returned_or_memory errors.MissingExpectedFileHash = inl refl
returned_or_memory (errors.InvalidTimestampCert e) = inl refl
returned_or_memory (errors.CtlError e) = inl refl
returned_or_memory errors.CAIsNotTrusted = inl refl
returned_or_memory errors.CaCertificateRevoked = inl refl
returned_or_memory (errors.CaCertificateExpired not_after now) = inl refl
returned_or_memory (errors.CaCertificateNotYetValid not_before now) = inl refl
returned_or_memory errors.ProgramNameCharSet = inl refl
returned_or_memory errors.NoCertificates = inl refl
returned_or_memory (errors.Asn1DerError e) = inl refl
returned_or_memory (errors.TimestampError e) = inl refl
returned_or_memory errors.Memory = inr refl

-- for what the certificate is
pub value_refuses : (policy : Policy) (octets : List ℕ) (e : CheckError) → RefusesValue octets e → RefusesForm policy octets e
value_refuses policy octets (Win e) p = p
value_refuses policy octets (Authenticode e) p = inl p
value_refuses policy octets Memory p = absurd p

-- and for the form
pub shape_is_answer : (judge : Judge) (policy : Policy) (octets : List ℕ) (e : CheckError) → RefusesForm policy octets e → IsAnswer judge policy octets (Err e)
shape_is_answer judge policy octets (Win e) p = p
shape_is_answer judge policy octets (Authenticode e) (inl p) = inl p
shape_is_answer judge policy octets (Authenticode e) (inr p) = inr (p.0, p.1, shape_in_policy judge policy p.0 e p.2)
shape_is_answer judge policy octets Memory p = absurd p

rules_returned : (judge : Judge) (policy : Policy) (octets : List ℕ) (f : SignedDataElements) (e : AuthenticodeError) → HasSignedData octets f
    → RefusesAuthenticodeBy (policy_rules judge policy f) e → (of_content e ≡ Authenticode e) ⊎ (e ≡ errors.Memory)
    → IsAnswer judge policy octets (Err (of_content e))
rules_returned judge policy octets f e has (inl broken) (inl returned) = rw returned (inr (f, has, broken))
rules_returned judge policy octets f e has p (inr memory) = rw memory tt
rules_returned judge policy octets f e has (inr memory) returned = rw memory tt

-- by the rules, and out of memory
pub refusal_is_answer : (judge : Judge) (policy : Policy) (octets : List ℕ) (f : SignedDataElements) (e : AuthenticodeError) → HasSignedData octets f
    → RefusesAuthenticodeBy (policy_rules judge policy f) e → IsAnswer judge policy octets (Err (of_content e))
refusal_is_answer judge policy octets f e has p = rules_returned judge policy octets f e has p (returned_or_memory e)

-- a refusal of the form is never out of memory
shape_returned_so : (policy : Policy) (f : SignedDataElements) (e : AuthenticodeError) (b : Bool) → IsFirstBroken (asked b (shape_rules f policy.file_hash)) e
    → (of_content e ≡ Authenticode e) ⊎ (e ≡ errors.Memory) → of_content e ≡ Authenticode e
shape_returned_so policy f e b broken (inl returned) = returned
shape_returned_so policy f e true broken (inr memory) =
    absurd (none_returns (shape_rules f policy.file_hash) errors.Memory (shape_returns_no_memory f policy.file_hash)
    (subst (λ (x : AuthenticodeError). IsFirstBroken (shape_rules f policy.file_hash) x) memory broken))
shape_returned_so policy f e false broken (inr memory) = absurd broken

module _ (at_most_one : FaultsAreOne) (exclude : FaultsExclude) where
  not_both : (octets : List ℕ) (element : DerElement) (m : Malformed) → IsPaddedEncoding octets element → IsMalformedPadded octets m → ⊥
  not_both octets element m padded (inl fault) =
      exclude octets m.at m.fault fault element _ (IsFirst-padded octets element padded)
  not_both octets element m padded (inr h) =
      let same = one_first octets element h.1.element _ m.at (IsFirst-padded octets element padded) h.1.first in
      h.1.unpadded (padded.1, padded.2, ap (drop m.at) padded.3 ∙ drop_at (encoding element) (replicate padded.1 0) m.at same.1)

  one_unread : (octets : List ℕ) (m n : Malformed) → IsMalformedPadded octets m → IsMalformedPadded octets n → m ≡ n
  one_unread octets m n (inl a) (inl b) =
      let same = at_most_one octets m.at n.at m.fault n.fault a b in same_malformed m n same.0 same.1
  one_unread octets m n (inl a) (inr b) = absurd (exclude octets m.at m.fault a b.1.element n.at b.1.first)
  one_unread octets m n (inr a) (inl b) = absurd (exclude octets n.at n.fault b a.1.element m.at a.1.first)
  one_unread octets m n (inr a) (inr b) =
      same_malformed m n (one_first octets a.1.element b.1.element m.at n.at a.1.first b.1.first).1 (a.0 ∙ sym b.0)

  one_source : (certificate : List ℕ) (a b : DerError) → IsNoSignedData certificate a → IsNoSignedData certificate b → a ≡ b
  one_source certificate (der.Malformed m) (der.Malformed n) p q = ap der.Malformed (one_unread certificate m n p q)
  one_source certificate (der.Malformed m) der.Shape p q = absurd (not_both certificate q.element m q.spelled p)
  one_source certificate (der.Malformed m) der.TooDeep p q = absurd q
  one_source certificate (der.Malformed m) der.TooLong p q = absurd q
  one_source certificate (der.Malformed m) der.Memory p q = absurd q
  one_source certificate der.Shape (der.Malformed n) p q = absurd (not_both certificate p.element n p.spelled q)
  one_source certificate der.Shape der.Shape p q = refl
  one_source certificate der.Shape der.TooDeep p q = absurd q
  one_source certificate der.Shape der.TooLong p q = absurd q
  one_source certificate der.Shape der.Memory p q = absurd q
  one_source certificate der.TooDeep b p q = absurd p
  one_source certificate der.TooLong b p q = absurd p
  one_source certificate der.Memory b p q = absurd p

  no_signed_data : (certificate : List ℕ) (source : DerError) (h : DerElement) → IsNoSignedData certificate source → IsPaddedEncoding certificate h
      → ((source ≡ der.Shape) × IsShapeless certificate)
  no_signed_data certificate (der.Malformed m) h p padded = absurd (not_both certificate h m padded p)
  no_signed_data certificate der.Shape h p padded = (refl, p)
  no_signed_data certificate der.TooDeep h p padded = absurd p
  no_signed_data certificate der.TooLong h p padded = absurd p
  no_signed_data certificate der.Memory h p padded = absurd p

  one_unread_signature : (octets : List ℕ) (a b : AuthenticodeError) → IsUnreadSignature octets a → IsUnreadSignature octets b → a ≡ b
  one_unread_signature octets a b p q =
      let same = same_certificate octets p.certificate q.certificate p.named q.named in
      p.returned ∙ ap (λ (source : DerError). errors.CertError (Asn1Deserialization Pkcs7 source))
      (one_source q.certificate p.source q.source (subst (λ (c : List ℕ). IsNoSignedData c p.source) same p.cause) q.cause) ∙ sym q.returned

  signed_data_is_read : (octets : List ℕ) (e : AuthenticodeError) (f : SignedDataElements) → IsUnreadSignature octets e → HasSignedData octets f → ⊥
  signed_data_is_read octets e f p q =
      let same = same_certificate octets p.certificate q.certificate p.named q.named in
      let shapeless = (no_signed_data q.certificate p.source (pkcs7 q.value) (subst (λ (c : List ℕ). IsNoSignedData c p.source) same p.cause) q.spelled).1 in
      shapeless.none q.value (one_element q.certificate shapeless.element (pkcs7 q.value) shapeless.spelled q.spelled)

  -- ---- refusals of the form

  one_shape_cause : (policy : Policy) (octets : List ℕ) (a b : AuthenticodeError) → RefusesForm policy octets (Authenticode a)
      → RefusesForm policy octets (Authenticode b) → a ≡ b
  one_shape_cause policy octets a b (inl p) (inl q) = one_unread_signature octets a b p q
  one_shape_cause policy octets a b (inl p) (inr q) = absurd (signed_data_is_read octets a q.0 p q.1)
  one_shape_cause policy octets a b (inr p) (inl q) = absurd (signed_data_is_read octets b p.0 q p.1)
  one_shape_cause policy octets a b (inr p) (inr q) =
      one_broken (asked policy.basic (shape_rules q.0 policy.file_hash))
      (asked_returned policy.basic (shape_rules q.0 policy.file_hash) (shape_returned q.0 policy.file_hash)) a b
      (subst (λ (f : SignedDataElements). IsFirstBroken (asked policy.basic (shape_rules f policy.file_hash)) a) (one_data octets p.0 q.0 p.1 q.1) p.2) q.2

  unnamed_shape : (policy : Policy) (octets : List ℕ) (header : WinCertificateError) (e : AuthenticodeError) → contents_in octets ≡ Err header
      → RefusesForm policy octets (Authenticode e) → ⊥
  unnamed_shape policy octets header e refused (inl p) = named_once octets p.certificate header p.named refused
  unnamed_shape policy octets header e refused (inr p) = named_once octets p.1.certificate header p.1.named refused

  -- octets are refused for one cause
  pub one_refusal : (policy : Policy) (octets : List ℕ) (e f : CheckError) → RefusesForm policy octets e → RefusesForm policy octets f → e ≡ f
  one_refusal policy octets (Win e) (Win f) h k = let same : e ≡ f = cc in ap Win same
  one_refusal policy octets (Win e) (Authenticode f) h k = absurd (unnamed_shape policy octets e f h k)
  one_refusal policy octets (Win e) Memory h k = absurd k
  one_refusal policy octets (Authenticode e) (Win f) h k = absurd (unnamed_shape policy octets f e k h)
  one_refusal policy octets (Authenticode e) (Authenticode f) h k = ap Authenticode (one_shape_cause policy octets e f h k)
  one_refusal policy octets (Authenticode e) Memory h k = absurd k
  one_refusal policy octets Memory f h k = absurd h

  -- if there is signed data they are refused for its form
  pub refused_there : (policy : Policy) (octets : List ℕ) (f : SignedDataElements) (e : CheckError) → HasSignedData octets f → RefusesForm policy octets e
      → (x : AuthenticodeError) × (of_content x ≡ e) × IsFirstBroken (asked policy.basic (shape_rules f policy.file_hash)) x
  refused_there policy octets f (Win e) has p = absurd (named_once octets has.certificate e has.named p)
  refused_there policy octets f (Authenticode e) has (inl p) = absurd (signed_data_is_read octets e f p has)
  refused_there policy octets f (Authenticode e) has (inr p) =
      let broken =
      subst (λ (x : SignedDataElements). IsFirstBroken (asked policy.basic (shape_rules x policy.file_hash)) e) (one_data octets p.0 f p.1 has) p.2 in
      (e, shape_returned_so policy f e policy.basic broken (returned_or_memory e), broken)
  refused_there policy octets f Memory has p = absurd p

  -- ---- results

  abbrev Causes : Judge → Policy → List ℕ → AuthenticodeError → Type 0
  Causes judge policy octets e =
      IsUnreadSignature octets e ⊎ ((f : SignedDataElements) × HasSignedData octets f × IsFirstBroken (policy_rules judge policy f) e)

  one_cause : (judge : Judge) (policy : Policy) (octets : List ℕ) (a b : AuthenticodeError) → Causes judge policy octets a
      → Causes judge policy octets b → a ≡ b
  one_cause judge policy octets a b (inl p) (inl q) = one_unread_signature octets a b p q
  one_cause judge policy octets a b (inl p) (inr q) = absurd (signed_data_is_read octets a q.0 p q.1)
  one_cause judge policy octets a b (inr p) (inl q) = absurd (signed_data_is_read octets b p.0 q p.1)
  one_cause judge policy octets a b (inr p) (inr q) =
      one_broken (policy_rules judge policy q.0) (policy_returned judge policy q.0) a b
      (subst (λ (f : SignedDataElements). IsFirstBroken (policy_rules judge policy f) a) (one_data octets p.0 q.0 p.1 q.1) p.2) q.2

  no_cause : (judge : Judge) (policy : Policy) (octets : List ℕ) (f : SignedDataElements) (accepted : Accepted) (e : AuthenticodeError) → HasSignedData octets f
      → IsTrusted judge policy f accepted → Causes judge policy octets e → ⊥
  no_cause judge policy octets f accepted e has t (inl p) = signed_data_is_read octets e f p has
  no_cause judge policy octets f accepted e has t (inr p) =
      trusted_unbroken judge policy f accepted e t
      (subst (λ (x : SignedDataElements). IsFirstBroken (policy_rules judge policy x) e) (one_data octets p.0 f p.1 has) p.2)

  unnamed : (judge : Judge) (policy : Policy) (octets : List ℕ) (header : WinCertificateError) (e : AuthenticodeError) → contents_in octets ≡ Err header
      → Causes judge policy octets e → ⊥
  unnamed judge policy octets header e refused (inl p) = named_once octets p.certificate header p.named refused
  unnamed judge policy octets header e refused (inr p) = named_once octets p.1.certificate header p.1.named refused

  pub one_answer : (judge : Judge) (policy : Policy) (octets : List ℕ) (r s : Result Accepted CheckError) → IsAnswer judge policy octets r
      → IsAnswer judge policy octets s → AreOneUnlessMemory Memory r s
  one_answer judge policy octets (Err Memory) s h k = inr (inl refl)
  one_answer judge policy octets (Ok a) (Err Memory) h k = inr (inr refl)
  one_answer judge policy octets (Ok a) (Ok b) h k =
      let same = one_data octets h.0 k.0 h.1 k.1 in
      inl (ap Ok (one_trusted judge policy k.0 a b (subst (λ (f : SignedDataElements). IsTrusted judge policy f a) same h.2) k.2))
  one_answer judge policy octets (Ok a) (Err (Win e)) h k = absurd (named_once octets h.1.certificate e h.1.named k)
  one_answer judge policy octets (Ok a) (Err (Authenticode e)) h k = absurd (no_cause judge policy octets h.0 a e h.1 h.2 k)
  one_answer judge policy octets (Err (Win e)) (Err Memory) h k = inr (inr refl)
  one_answer judge policy octets (Err (Win e)) (Ok b) h k = absurd (named_once octets k.1.certificate e k.1.named h)
  one_answer judge policy octets (Err (Win e)) (Err (Win other)) h k = let same : e ≡ other = cc in inl (ap (λ (x : WinCertificateError). Err (Win x)) same)
  one_answer judge policy octets (Err (Win e)) (Err (Authenticode other)) h k = absurd (unnamed judge policy octets e other h k)
  one_answer judge policy octets (Err (Authenticode e)) (Err Memory) h k = inr (inr refl)
  one_answer judge policy octets (Err (Authenticode e)) (Ok b) h k = absurd (no_cause judge policy octets k.0 b e k.1 k.2 h)
  one_answer judge policy octets (Err (Authenticode e)) (Err (Win other)) h k = absurd (unnamed judge policy octets other e k h)
  one_answer judge policy octets (Err (Authenticode e)) (Err (Authenticode other)) h k =
      inl (ap (λ (x : AuthenticodeError). Err (Authenticode x)) (one_cause judge policy octets e other h k))

  -- ---- exits

  module _ (judge : Judge) (policy : Policy) (octets : List ℕ) where
    pub answer_at : (r s : Result Accepted CheckError) → r ≡ s → IsAnswer judge policy octets s → IsAnswer judge policy octets r
    answer_at r s e answer = subst (λ (x : Result Accepted CheckError). IsAnswer judge policy octets x) (sym e) answer

    pub only_at : (r s : Result Accepted CheckError) → r ≡ s → IsAnswer judge policy octets s → (other : Result Accepted CheckError)
        → IsAnswer judge policy octets other → AreOneUnlessMemory Memory r other
    only_at r s e answer other k =
        subst (λ (x : Result Accepted CheckError). AreOneUnlessMemory Memory x other) (sym e) (one_answer judge policy octets s other answer k)

    pub refused_at : (r : Result Accepted CheckError) (e : CheckError) → r ≡ Err e → RefusesForm policy octets e → (f : CheckError)
        → RefusesForm policy octets f → r ≡ Err f
    refused_at r e is refuses f k = is ∙ ap Err (one_refusal policy octets e f refuses k)

    -- why the signed data is refused, its form first
    pub refused_behind : (r : Result Accepted CheckError) (f : SignedDataElements) (given : Result Accepted AuthenticodeError) → HasSignedData octets f
        → ((x : AuthenticodeError) → IsFirstBroken (asked policy.basic (shape_rules f policy.file_hash)) x → given ≡ Err x)
        → ((x : AuthenticodeError) → given ≡ Err x → r ≡ Err (of_content x))
        → (e : CheckError) → RefusesForm policy octets e → r ≡ Err e
    refused_behind r f given has shape so e k =
        let there = refused_there policy octets f e has k in
        so there.0 (shape there.0 there.2) ∙ ap Err there.1
