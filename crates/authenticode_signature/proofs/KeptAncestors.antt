-- Of a certificate of a history and all its ancestors a signature keeps all but the root, or that too if it isn't a CA.
use Rattle.std.proofs.Common.{◌≡◌, ℕ, suc, true, List, [], ◌∷◌, ◌++◌, Some, Result, Ok, inl, inr, refl, sym, ap, subst, ◌∙◌}
use Rattle.std.specs.Prelude.{ℤ}
use Rattle.asn1_types.specs.declared.generalized_time.GeneralizedTime.{GeneralizedTime}
use Rattle.der_core.specs.Encoding.{encoding}
use Rattle.der_core.specs.Rules.{AreOneUnlessMemory}
use Rattle.key_core.specs.Verifying.{Judge}
use Rattle.x509_core.specs.CertType.{IsSelfIssued}
use Rattle.x509_core.specs.Chain.{last_of}
use Rattle.x509_core.specs.History.{IssuingStep, History, HasStep, HasIssuer, IsRootStep, AreIssuers, AreAllowed, IsDuring}
use Rattle.x509_core.specs.Issued.{HasCert, AreCertsAt, IsIssued}
use Rattle.x509_core.specs.OwnedCertificate.{KeptCertificate}
use Rattle.x509_core.proofs.Depths.{ca_once}
use Rattle.x509_types.specs.CertificateElements.{CertificateElements}
use Rattle.x509_types.specs.ExtensionParts.{HasCa}
use Rattle.authenticode_parts.specs.Carried.{AreCarried, AreWithoutRoots, IsRootCertificate, elements_of}
use Rattle.authenticode_core.specs.Trusted.{IsTrusted}
use Rattle.authenticode_core.specs.declared.accepted.Accepted.{Accepted}
use Rattle.authenticode_core.specs.declared.accepted.Excuse.TheVariants as excuses
use Rattle.authenticode_core.specs.declared.error.CheckError.{CheckError}
use Rattle.authenticode_core.specs.declared.error.CheckError.TheVariants.{Memory}
use Rattle.authenticode_signature.specs.HistorySignature.{HaveOtherSubjects, IsSignerOf, all_checks_at, by_the_first_over, indices_from}
use Rattle.authenticode_signature.specs.KeptAncestors.{AreKeptOf, HasNoAuthorityLast, HaveDistinctSubjects, IsDecidedBy, IsOfAuthority, IsWithAncestors}
use Rattle.authenticode_signature.specs.MadeFile.{IsCheckedBy}
use Rattle.authenticode_signature.proofs.HistorySignatures.{trusted, allowed, reported, if_ok}

-- ---- lists

same_rest : {X : Type 0} (x y : X) (xs ys : List X) → x ∷ xs ≡ y ∷ ys → xs ≡ ys
same_rest x y xs ys e = cc

same_first : {X : Type 0} (x y : X) (xs ys : List X) → x ∷ xs ≡ y ∷ ys → x ≡ y
same_first x y xs ys e = cc

not_nil : {X : Type 0} (x : X) (xs : List X) → x ∷ xs ≡ [] → ⊥
not_nil x xs e = absurd cc

not_empty : {X : Type 0} (before : List X) (x : X) → before ++ x ∷ [] ≡ [] → ⊥
not_empty [] x e = absurd cc
not_empty (y ∷ before) x e = absurd cc

-- the last of one is that one
pub one_last : {X : Type 0} (before : List X) (x y : X) → y ∷ [] ≡ before ++ x ∷ [] → y ≡ x
one_last [] x y e = same_first y x [] [] e
one_last (z ∷ before) x y e = absurd (not_empty before x (sym (same_rest y z [] (before ++ x ∷ []) e)))

-- ---- who is a root

module _ (judge : Judge) (history : History) (certificates : List KeptCertificate) (issued : IsIssued judge history certificates) where
  -- a certificate whose issuer's has another subject isn't self-issued
  not_self : (index issuer : ℕ) (child parent : KeptCertificate) (parents : List KeptCertificate) → HasIssuer history index issuer
      → HasCert certificates index child → HasCert certificates issuer parent → HaveOtherSubjects child (parent ∷ parents)
      → IsSelfIssued child.elements → ⊥
  not_self index issuer child parent parents by is above other self =
      other.0 (ap encoding (sym (issued.issued index issuer parent child by above is).name ∙ self))

  -- a root certificate of a CA is one, by the history
  is_authority : (index : ℕ) (root : KeptCertificate) → IsRootStep history index → HasCert certificates index root → HasCa root.elements true
      → IsOfAuthority history index
  is_authority index root step is ca =
      (step.step, step.is, ca_once root.elements step.step.ca true (issued.recorded index step.step root step.is is).flag ca)

  -- and by the history it is a root certificate
  is_root : (index : ℕ) (root : KeptCertificate) → IsRootStep history index → HasCert certificates index root → IsOfAuthority history index
      → IsRootCertificate root.elements
  is_root index root step is by = (
    subst (HasCa root.elements) by.2 (issued.recorded index by.0 root by.1 is).flag,
    issued.roots index root step is,
  )

  -- ---- which are kept

  -- The kept ancestors of a step, by their certificates.
  pub record AreKeptAt (index : ℕ) (ancestors : List ℕ) (parents : List KeptCertificate) (carried : List CertificateElements) : Type 0 where
    pub kept : List ℕ
    pub certs : List KeptCertificate
    pub are_kept : AreKeptOf history ancestors kept
    pub under : AreIssuers history index kept
    pub are : AreCertsAt certificates kept certs
    pub same : carried ≡ elements_of certs
    pub others : (cert : KeptCertificate) → HaveOtherSubjects cert parents → HaveOtherSubjects cert certs

  none_last : HasNoAuthorityLast history []
  none_last before root e by = not_empty before root (sym e)

  none_kept : (index : ℕ) (carried : List CertificateElements) → carried ≡ [] → AreKeptAt index [] [] carried
  none_kept index carried e =
      record { kept = []; certs = []; are_kept = inr (refl, none_last); under = tt; are = tt; same = e; others = λ cert other. tt }

  -- the root is kept unless it is a CA
  root_kept : (index root : ℕ) (parent : KeptCertificate) (carried : List CertificateElements) → HasIssuer history index root → IsRootStep history root
      → HasCert certificates root parent → AreWithoutRoots (parent.elements ∷ []) carried → AreKeptAt index (root ∷ []) (parent ∷ []) carried
  root_kept index root parent carried by step is (inl (ca, none)) = record {
    kept = [];
    certs = [];
    are_kept = inl (root, refl, is_authority root parent step is ca.0);
    under = tt;
    are = tt;
    same = none;
    others = λ cert other. tt;
  }
  root_kept index root parent carried by step is (inr (rootless, more, e, none)) = record {
    kept = root ∷ [];
    certs = parent ∷ [];
    are_kept = inr (
      refl,
      λ before last same of. rootless (is_root root parent step is (subst (IsOfAuthority history) (sym (one_last before last root same)) of)),
    );
    under = (by, tt);
    are = (is, tt);
    same = e ∙ ap (λ (fs : List CertificateElements). parent.elements ∷ fs) none;
    others = λ cert other. other;
  }

  still_kept : (first : ℕ) (next : ℕ) (ancestors kept : List ℕ) → AreKeptOf history (next ∷ ancestors) kept
      → AreKeptOf history (first ∷ next ∷ ancestors) (first ∷ kept)
  still_kept first next ancestors kept (inl (root, e, of)) = inl (root, ap (λ (is : List ℕ). first ∷ is) e, of)
  still_kept first next ancestors kept (inr (e, none)) = inr (ap (λ (is : List ℕ). first ∷ is) e, last)
    where
      last : HasNoAuthorityLast history (first ∷ next ∷ ancestors)
      last [] root same of = not_nil next ancestors (same_rest first root (next ∷ ancestors) [] same)
      last (x ∷ before) root same of = none before root (same_rest first x (next ∷ ancestors) (before ++ root ∷ []) same) of

  more_kept : (index first : ℕ) (next : ℕ) (ancestors : List ℕ) (parent : KeptCertificate) (parents : List KeptCertificate)
      (carried rest : List CertificateElements) → HasIssuer history index first → HasCert certificates first parent → carried ≡ parent.elements ∷ rest
      → AreKeptAt first (next ∷ ancestors) parents rest → AreKeptAt index (first ∷ next ∷ ancestors) (parent ∷ parents) carried
  more_kept index first next ancestors parent parents carried rest by is e k = record {
    kept = first ∷ k.kept;
    certs = parent ∷ k.certs;
    are_kept = still_kept first next ancestors k.kept k.are_kept;
    under = (by, k.under);
    are = (is, k.are);
    same = e ∙ ap (λ (fs : List CertificateElements). parent.elements ∷ fs) k.same;
    others = λ cert other. (other.0, k.others cert other.1);
  }

  kept_at : (index : ℕ) (ancestors : List ℕ) (parents : List KeptCertificate) (carried : List CertificateElements) → AreIssuers history index ancestors
      → IsRootStep history (last_of index ancestors) → AreCertsAt certificates ancestors parents → HaveDistinctSubjects parents
      → AreWithoutRoots (elements_of parents) carried → AreKeptAt index ancestors parents carried
  kept_at index [] [] carried under root are distinct without = none_kept index carried without
  kept_at index [] (parent ∷ parents) carried under root are distinct without = absurd are
  kept_at index (first ∷ ancestors) [] carried under root are distinct without = absurd are
  kept_at index (first ∷ []) (parent ∷ []) carried under root are distinct without = root_kept index first parent carried under.0 root are.0 without
  kept_at index (first ∷ []) (parent ∷ other ∷ parents) carried under root are distinct without = absurd are.1
  kept_at index (first ∷ next ∷ ancestors) (parent ∷ []) carried under root are distinct without = absurd are.1
  kept_at index (first ∷ next ∷ ancestors) (parent ∷ other ∷ parents) carried under root are distinct (inl (root_c, rest)) =
      absurd (not_self first next parent other parents under.1.0 are.0 are.1.0 distinct.0 root_c.1)
  kept_at index (first ∷ next ∷ ancestors) (parent ∷ other ∷ parents) carried under root are distinct (inr (rootless, more, e, rest)) =
      more_kept index first next ancestors parent (other ∷ parents) carried more under.0 are.0 e
      (kept_at first (next ∷ ancestors) (other ∷ parents) more under.1 root are.1 distinct.1 rest)

-- ---- a certificate with all its ancestors

module _ (judge : Judge) (history : History) (certificates : List KeptCertificate) (index : ℕ) where
  abbrev Whole : List ℕ → KeptCertificate → List KeptCertificate → Type 0
  Whole ancestors cert parents = IsWithAncestors judge history certificates index ancestors cert parents

  -- a root certificate stands alone
  pub alone : (ancestors : List ℕ) (cert : KeptCertificate) (parents : List KeptCertificate) → Whole ancestors cert parents → IsRootCertificate cert.elements
      → elements_of parents ≡ []
  alone ancestors cert [] w root = refl
  alone [] cert (parent ∷ parents) w root = absurd w.are
  alone (first ∷ ancestors) cert (parent ∷ parents) w root =
      absurd (not_self judge history certificates w.issued index first cert parent parents w.above.0.0 w.is w.are.0 w.distinct.0 root.1)

  pub kept_by : (ancestors : List ℕ) (cert : KeptCertificate) (parents : List KeptCertificate) (carried : List CertificateElements)
      (w : Whole ancestors cert parents) → AreCarried (elements_of (cert ∷ parents)) (cert.elements ∷ carried)
      → AreKeptAt judge history certificates w.issued index ancestors parents carried
  kept_by [] cert [] carried w are =
      none_kept judge history certificates w.issued index carried (same_rest cert.elements cert.elements carried [] are)
  kept_by [] cert (parent ∷ parents) carried w are = absurd w.are
  kept_by (first ∷ ancestors) cert [] carried w are = absurd w.are
  kept_by (first ∷ ancestors) cert (parent ∷ parents) carried w (inl (root, rest)) =
      absurd (not_self judge history certificates w.issued index first cert parent parents w.above.0.0 w.is w.are.0 w.distinct.0 root.1)
  kept_by (first ∷ ancestors) cert (parent ∷ parents) carried w (inr (rootless, more, e, rest)) =
      kept_at judge history certificates w.issued index (first ∷ ancestors) (parent ∷ parents) carried w.above.0 w.above.1 w.are w.distinct.1
      (subst (AreWithoutRoots (elements_of (parent ∷ parents))) (sym (same_rest cert.elements cert.elements carried more e)) rest)

  -- the certificate signs, with the kept ancestors
  signs : (ancestors : List ℕ) (cert : KeptCertificate) (parents : List KeptCertificate) (carried : List CertificateElements) (step : IssuingStep)
      (date : GeneralizedTime) (w : Whole ancestors cert parents) → HasStep history index step → IsDuring step date
      → (k : AreKeptAt judge history certificates w.issued index ancestors parents carried)
      → IsSignerOf judge history certificates date k.kept cert k.certs
  signs ancestors cert parents carried step date w has valid k = record {
    issued = w.issued;
    index = index;
    step = step;
    has = has;
    valid = valid;
    is = w.is;
    under = k.under;
    are = k.are;
    others = k.others cert w.distinct.0;
  }

-- ---- the reported path

same_indices : (certificates : List KeptCertificate) (from : ℕ) (kept : List ℕ) (certs : List KeptCertificate) → AreCertsAt certificates kept certs
    → indices_from from certs ≡ indices_from from kept
same_indices certificates from [] [] are = refl
same_indices certificates from [] (cert ∷ certs) are = absurd are
same_indices certificates from (index ∷ kept) [] are = absurd are
same_indices certificates from (index ∷ kept) (cert ∷ certs) are = ap (λ (is : List ℕ). from ∷ is) (same_indices certificates (suc from) kept certs are.1)

same_report : (certificates : List KeptCertificate) (kept : List ℕ) (certs : List KeptCertificate) → AreCertsAt certificates kept certs
    → by_the_first_over certs ≡ by_the_first_over kept
same_report certificates kept certs are =
    ap (λ (path : List ℕ). record { signer = Some 0; path = path; excuse = excuses.None }) (same_indices certificates 1 kept certs are)

module _ (judge : Judge) (history : History) (certificates : List KeptCertificate) (date : GeneralizedTime) (kept : List ℕ) (cert : KeptCertificate)
    (certs : List KeptCertificate) (now : ℤ) (octets file_hash : List ℕ) (answer : Result Accepted CheckError)
    (s : IsSignerOf judge history certificates date kept cert certs)
    (by : IsCheckedBy judge (all_checks_at date now file_hash) (elements_of (cert ∷ certs)) octets file_hash answer) where
  report : by_the_first_over certs ≡ by_the_first_over kept
  report = same_report certificates kept certs s.are

  accepted_by : (a : Accepted) → IsTrusted judge (all_checks_at date now file_hash) by.f a → (a ≡ by_the_first_over kept) × AreAllowed history date kept
  accepted_by a t = (
    reported judge history certificates date kept cert certs now file_hash by.f s by.bag by.vouches a t ∙ report,
    allowed judge history certificates date kept cert certs now file_hash by.f s by.bag by.vouches a t,
  )

  allowed_by : AreAllowed history date kept → AreOneUnlessMemory Memory answer (Ok (by_the_first_over kept))
  allowed_by allow = subst (λ (a : Accepted). AreOneUnlessMemory Memory answer (Ok a)) report
      (by.accepted (by_the_first_over certs) (trusted judge history certificates date kept cert certs now file_hash by.f s by.bag by.vouches allow))

  decided : IsDecidedBy history date kept answer
  decided = record {
    accepted = if_ok answer (IsTrusted judge (all_checks_at date now file_hash) by.f) (λ a. (a ≡ by_the_first_over kept) × AreAllowed history date kept)
        accepted_by by.trusted;
    allowed = allowed_by;
  }

-- ---- the law

module _ (judge : Judge) (history : History) (certificates : List KeptCertificate) (index : ℕ) (step : IssuingStep) (ancestors : List ℕ)
    (cert : KeptCertificate) (parents : List KeptCertificate) (carried : List CertificateElements) (date : GeneralizedTime) (now : ℤ)
    (octets file_hash : List ℕ) (answer : Result Accepted CheckError) where
  abbrev IsChecked : List CertificateElements → Type 0
  IsChecked carried = IsCheckedBy judge (all_checks_at date now file_hash) (cert.elements ∷ carried) octets file_hash answer

  pub made_decided : (w : IsWithAncestors judge history certificates index ancestors cert parents) → HasStep history index step → IsDuring step date
      → AreCarried (elements_of (cert ∷ parents)) (cert.elements ∷ carried) → IsChecked carried
      → (kept : List ℕ) × AreKeptOf history ancestors kept × IsDecidedBy history date kept answer
  made_decided w has valid are by =
      let k = kept_by judge history certificates index ancestors cert parents carried w are in (
        k.kept,
        k.are_kept,
        decided judge history certificates date k.kept cert k.certs now octets file_hash answer
            (signs judge history certificates index ancestors cert parents carried step date w has valid k) (subst IsChecked k.same by),
      )
