-- Certificates that were issued by a history are linked, and accepted, where the history allows it.
use Rattle.std.proofs.Common.{◌≡◌, ◌≤◌, ℕ, ◌+◌, true, IsTrue, List, [], ◌∷◌, length, Some, refl, sym, subst, arith}
use Rattle.std.proofs.lemmas.Option.{slice_get_within}
use Rattle.asn1_types.specs.declared.generalized_time.GeneralizedTime.{GeneralizedTime}
use Rattle.key_core.specs.Verifying.{Judge}
use Rattle.x509_types.specs.ExtensionParts.{HasCa, HasSubjectKey}
use Rattle.x509_types.specs.CertificateElements.{CertificateElements}
use Rattle.x509_core.specs.CertType.{IsOfType}
use Rattle.x509_core.specs.Chain.{IsAccepted, IsPath, IsLinkedChain, IsDated, last_of}
use Rattle.x509_core.specs.Checks.{checks_at, first_checks}
use Rattle.x509_core.specs.History.{IssuingStep, History, HasStep, HasIssuer, AreIssuers, AreAncestors, IsDuring, IsAllowed, AreAllowed, IsValidAt}
use Rattle.x509_core.specs.Issued.{HasCert, AreCertsAt, IsRecordedAs, IsCertifiedBy, IsIssued}
use Rattle.x509_core.specs.OwnedCertificate.{KeptCertificate}
use Rattle.x509_core.specs.Link.{IsLink, IsDeepEnough}
use Rattle.x509_core.specs.Parent.{AgreeByKeyAndName}
use Rattle.x509_core.specs.Window.{IsWithinWindow}
use Rattle.x509_core.specs.declared.cert_type.CertType.TheVariants as types
use Rattle.x509_core.specs.declared.validator.ChainChecks.{ChainChecks}
use Rattle.x509_core.specs.declared.window.DateCheck.TheVariants as dates
use Rattle.x509_core.specs.declared.window.Window.{Window}
use Rattle.x509_core.proofs.Depths.{ca_once}
use Rattle.x509_core.proofs.Histories.{item_at, ancestors_once}
use Rattle.x509_core.proofs.KeyIds.{named_once}
use Rattle.x509_core.proofs.Rows.{LinkRow, HoldRow, link_row_of, linked_of_row, hold_row_of, holds_of_row}
use Rattle.x509_core.proofs.Validity.{same_some, begun_by, lasts_by}

-- all checks at a date
abbrev pub checks_on : GeneralizedTime → ChainChecks
checks_on date = checks_at (dates.Exact date) first_checks

abbrev pub window_on : GeneralizedTime → Window
window_on date = (checks_on date).window

-- ---- one certificate

module _ (date : GeneralizedTime) (step : IssuingStep) (cert : KeptCertificate) (recorded : IsRecordedAs step cert) where
  pub within : IsDuring step date → IsWithinWindow (window_on date) cert.elements
  within during = record {
    begun = begun_by (window_on date) cert.elements step.not_before date recorded.begins refl during.begun;
    lasts = lasts_by (window_on date) cert.elements step.not_after date recorded.ends refl during.lasts;
  }

  pub during : IsWithinWindow (window_on date) cert.elements → IsDuring step date
  during window = record {
    begun = λ early. window.begun refl step.not_before date recorded.begins refl early;
    lasts = λ early. window.lasts refl step.not_after date recorded.ends refl early;
  }

  pub is_authority : IsTrue step.ca → HasCa cert.elements true
  is_authority holds = subst (HasCa cert.elements) holds recorded.flag

  pub has_flag : HasCa cert.elements true → IsTrue step.ca
  has_flag ca = ca_once cert.elements step.ca true recorded.flag ca

  pub is_deep_enough : (number : ℕ) → ((limit : ℕ) → step.pathlen ≡ Some limit → number ≤ limit) → IsDeepEnough number cert.elements
  is_deep_enough number depth = λ limit has. depth limit ((recorded.length limit).0 has)

  pub is_allowed : (number : ℕ) → HasCa cert.elements true → IsDeepEnough number cert.elements → IsWithinWindow (window_on date) cert.elements
      → IsAllowed date number step
  is_allowed number ca deep window = record {
    authority = has_flag ca;
    depth = λ limit is. deep limit ((recorded.length limit).1 is);
    valid = during window;
  }

-- ---- a certificate and its issuer's

agreed : (judge : Judge) (parent child : CertificateElements) → IsCertifiedBy judge parent child → AgreeByKeyAndName parent child
agreed judge parent child certified = record {
  key = λ key named. subst (HasSubjectKey parent) (named_once child certified.key key certified.named named) certified.had;
  name = certified.name;
}

module _ (judge : Judge) (history : History) (certificates : List KeptCertificate) (date : GeneralizedTime) (issued : IsIssued judge history certificates) where
  pub has_step : (index : ℕ) (cert : KeptCertificate) → HasCert certificates index cert → (step : IssuingStep) × HasStep history index step
  has_step index cert is =
      let within_certificates = slice_get_within certificates index cert is in
      item_at history index (omega (arith, within_certificates, issued.all))

  -- the history allows the issuer with this number
  abbrev Allows : ℕ → ℕ → Type 0
  Allows number index = (step : IssuingStep) → HasStep history index step → IsAllowed date number step

  module _ (number index issuer : ℕ) (child parent : KeptCertificate) (under : HasIssuer history index issuer) (is_child : HasCert certificates index child)
      (is_parent : HasCert certificates issuer parent) where
    pub linked : Allows number issuer → IsLink judge (window_on date) number parent.elements child.elements
    linked allows =
        let found = has_step issuer parent is_parent in
        let recorded = issued.recorded issuer found.0 parent found.1 is_parent in
        let allowed = allows found.0 found.1 in
        let certified = issued.issued index issuer parent child under is_parent is_child in
        record {
          authority = is_authority date found.0 parent recorded allowed.authority;
          depth = is_deep_enough date found.0 parent recorded number allowed.depth;
          valid = within date found.0 parent recorded allowed.valid;
          agreed = agreed judge parent.elements child.elements certified;
          signed = certified.signed;
        }

    pub allowed : IsLink judge (window_on date) number parent.elements child.elements → Allows number issuer
    allowed link step is = is_allowed date step parent (issued.recorded issuer step parent is is_parent) number link.authority link.depth link.valid

  abbrev LinkOf : ℕ → KeptCertificate → KeptCertificate → Type 0
  LinkOf number parent child = IsLink judge (window_on date) number parent.elements child.elements

  row_of_links : (number index : ℕ) (issuers : List ℕ) (child : KeptCertificate) (parents : List KeptCertificate) → AreIssuers history index issuers
      → HasCert certificates index child → AreCertsAt certificates issuers parents
      → HoldRow Allows number issuers → LinkRow LinkOf number child parents
  row_of_links number index [] child [] under is at holds = tt
  row_of_links number index [] child (parent ∷ parents) under is at holds = absurd at
  row_of_links number index (issuer ∷ issuers) child [] under is at holds = absurd at
  row_of_links number index (issuer ∷ issuers) child (parent ∷ parents) under is at holds =
      (linked number index issuer child parent under.0 is at.0 holds.0, row_of_links (number + 1) issuer issuers parent parents under.1 at.0 at.1 holds.1)

  row_of_steps : (number index : ℕ) (issuers : List ℕ) (child : KeptCertificate) (parents : List KeptCertificate) → AreIssuers history index issuers
      → HasCert certificates index child → AreCertsAt certificates issuers parents
      → LinkRow LinkOf number child parents → HoldRow Allows number issuers
  row_of_steps number index [] child parents under is at links = tt
  row_of_steps number index (issuer ∷ issuers) child [] under is at links = absurd at
  row_of_steps number index (issuer ∷ issuers) child (parent ∷ parents) under is at links =
      (allowed number index issuer child parent under.0 is at.0 links.0, row_of_steps (number + 1) issuer issuers parent parents under.1 at.0 at.1 links.1)

  module _ (index : ℕ) (issuers : List ℕ) (child : KeptCertificate) (parents : List KeptCertificate) (under : AreIssuers history index issuers)
      (is : HasCert certificates index child) (at : AreCertsAt certificates issuers parents) where
    pub chain_linked : AreAllowed history date issuers → IsLinkedChain judge (window_on date) child parents
    chain_linked allow = linked_of_row LinkOf child parents (row_of_links 0 index issuers child parents under is at
        (hold_row_of Allows issuers (λ number ancestor found step has. allow number ancestor step found has)))

    pub chain_allowed : IsLinkedChain judge (window_on date) child parents → AreAllowed history date issuers
    chain_allowed links number ancestor step found has = holds_of_row Allows issuers
        (row_of_steps 0 index issuers child parents under is at (link_row_of LinkOf child parents links)) number ancestor found step has

  -- the last certificate is that of the last index
  last_cert : (index : ℕ) (issuers : List ℕ) (child : KeptCertificate) (parents : List KeptCertificate) → HasCert certificates index child
      → AreCertsAt certificates issuers parents → HasCert certificates (last_of index issuers) (last_of child parents)
  last_cert index [] child [] is at = is
  last_cert index [] child (parent ∷ parents) is at = absurd at
  last_cert index (issuer ∷ issuers) child [] is at = absurd at
  last_cert index (issuer ∷ issuers) child (parent ∷ parents) is at = last_cert issuer issuers parent parents at.0 at.1

  dated : IsDated (checks_on date)
  dated asks absent = absurd cc

  module _ (index : ℕ) (ancestors : List ℕ) (checked : KeptCertificate) (parents : List KeptCertificate) (are : AreAncestors history index ancestors)
      (is : HasCert certificates index checked) (at : AreCertsAt certificates ancestors parents) where
    pub accepted : IsValidAt history index date → IsAccepted judge (checks_on date) checked (Some parents)
    accepted valid = record {
      dated = dated;
      valid = within date valid.step checked (issued.recorded index valid.step checked valid.is is) valid.valid;
      chained = λ asked. record {
        parents = parents;
        is = refl;
        linked = chain_linked index ancestors checked parents are.0 is at (subst (AreAllowed history date) same valid.allowed);
        rooted = λ rooted.
            (is_authority date are.1.step last (issued.recorded root are.1.step last are.1.is is_last) authority, issued.roots root last are.1 is_last);
      };
    }
      where
        same : valid.ancestors ≡ ancestors
        same = ancestors_once history index valid.ancestors ancestors valid.are are

        root : ℕ
        root = last_of index ancestors

        last : KeptCertificate
        last = last_of checked parents

        is_last : HasCert certificates root last
        is_last = last_cert index ancestors checked parents is at

        authority : IsTrue are.1.step.ca
        authority = valid.rooted are.1.step (subst (λ (zs : List ℕ). HasStep history (last_of index zs) are.1.step) (sym same) are.1.is)

    by_path : IsWithinWindow (window_on date) checked.elements → IsPath judge (checks_on date) checked (Some parents) → IsValidAt history index date
    by_path window path =
        let found = has_step index checked is in
        let same : parents ≡ path.parents = same_some parents path.parents path.is in
        let linked = subst (IsLinkedChain judge (window_on date) checked) (sym same) path.linked in
        let rooted = subst (λ (ps : List KeptCertificate). IsOfType (last_of checked ps).elements types.Root) (sym same) (path.rooted refl) in
        let root = last_of index ancestors in
        let last = last_of checked parents in
        let is_last = last_cert index ancestors checked parents is at in
        record {
          step = found.0;
          is = found.1;
          valid = during date found.0 checked (issued.recorded index found.0 checked found.1 is) window;
          ancestors = ancestors;
          are = are;
          allowed = chain_allowed index ancestors checked parents are.0 is at linked;
          rooted = λ step has. has_flag date step last (issued.recorded root step last has is_last) rooted.0;
        }

    pub valid : IsAccepted judge (checks_on date) checked (Some parents) → IsValidAt history index date
    valid accepted = by_path accepted.valid (accepted.chained refl)
