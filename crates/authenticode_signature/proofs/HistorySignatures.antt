-- Signatures by the certificates of an issuing history are trusted exactly where the history allows it.
use Rattle.std.proofs.Common.{◌≡◌, ◌+◌, ℕ, suc, List, [], ◌∷◌, ◌++◌, Result, Ok, Err, IfOk, length}
use Rattle.std.proofs.Common.{inl, inr, refl, sym, ap, subst, ◌∙◌, arith, append_assoc, length-append}
use Rattle.std.specs.Prelude.{⊤, ℤ}
use Rattle.asn1_types.specs.declared.generalized_time.GeneralizedTime.{GeneralizedTime}
use Rattle.cms_types.specs.SignedDataElements.{SignedDataElements}
use Rattle.der_core.specs.DerElement.{DerElement}
use Rattle.der_core.specs.Encoding.{encoding}
use Rattle.key_core.specs.Verifying.{Judge}
use Rattle.x509_core.specs.Chain.{IsLinkedChain}
use Rattle.x509_core.specs.History.{History, AreIssuers, AreAllowed}
use Rattle.x509_core.specs.Issued.{HasCert, AreCertsAt, IsIssued}
use Rattle.x509_core.specs.OwnedCertificate.{KeptCertificate}
use Rattle.x509_core.specs.Parent.{AgreeByName}
use Rattle.x509_core.specs.Window.{IsWithinWindow}
use Rattle.x509_core.proofs.IssuedLinks.{window_on, within as within_window, chain_linked, chain_allowed}
use Rattle.x509_types.specs.CertificateElements.{CertificateElements}
use Rattle.authenticode_core.specs.Basic.{VouchesFor}
use Rattle.authenticode_core.specs.IssuerWalk.{IsWalkFrom, AreOthers, IsIssuerPath}
use Rattle.authenticode_core.specs.LinkedPath.{StandAt, AreLinkedAt, IsVouchedPath}
use Rattle.authenticode_core.specs.Names.{HasSubject}
use Rattle.authenticode_core.specs.Indices.{StandsAt, IsLeastPlace}
use Rattle.authenticode_core.specs.SignerRules.{IsKeptSigner}
use Rattle.authenticode_core.specs.SigningRules.{IsBagOf, IsSignerCertificate}
use Rattle.authenticode_core.specs.Trusted.{IsTrusted}
use Rattle.authenticode_core.specs.declared.accepted.Accepted.{Accepted}
use Rattle.authenticode_core.specs.declared.policy.Policy.{Policy}
use Rattle.authenticode_core.proofs.OnePath.{kept_once, stand_once}
use Rattle.authenticode_core.proofs.OneSigning.{same_bag, signer_once}
use Rattle.authenticode_core.proofs.IndexSteps.{here, none_behind}
use Rattle.authenticode_core.proofs.PolicyOrder.{one_trusted}
use Rattle.authenticode_core.proofs.WalkSteps.{one_path, same_certificate}
use Rattle.authenticode_signature.specs.HistorySignature.{IsSignerOf, HaveOtherSubjects, all_checks_at, by_the_first_over, indices_from}
use Rattle.authenticode_parts.specs.Carried.{elements_of}

-- ---- the indices of the certificates

length_of_elements : (certs : List KeptCertificate) → length (elements_of certs) ≡ length certs
length_of_elements [] = refl
length_of_elements (c ∷ cs) = ap (λ n. suc n) (length_of_elements cs)

stand_from : (bag before : List CertificateElements) (from : ℕ) (certs : List KeptCertificate) → bag ≡ before ++ elements_of certs → from ≡ length before
    → StandAt bag (indices_from from certs) certs
stand_from bag before from [] are at = tt
stand_from bag before from (c ∷ cs) are at =
    let is : StandsAt (before ++ c.elements ∷ elements_of cs) (length before) c.elements = here before (elements_of cs) c.elements in
    let there : StandsAt bag (length before) c.elements = subst (λ (b : List CertificateElements). StandsAt b (length before) c.elements) (sym are) is in (
      subst (λ (n : ℕ). StandsAt bag n c.elements) (sym at) there,
      stand_from bag (before ++ c.elements ∷ []) (suc from) cs (are ∙ sym (append_assoc before (c.elements ∷ []) (elements_of cs)))
          (omega (arith, at, length-append before (c.elements ∷ []))),
    )

-- ---- the walk over them

-- the issuer of each is the subject of the next
abbrev AreNamed : KeptCertificate → List KeptCertificate → Type 0
AreNamed child [] = ⊤
AreNamed child (parent ∷ parents) = AgreeByName parent.elements child.elements × AreNamed parent parents

least_here : (bag : List CertificateElements) (holds : CertificateElements → Type 0) (place : ℕ) (c : CertificateElements) → StandsAt bag place c → holds c
    → IsLeastPlace bag holds place place c
least_here bag holds place c stands fits = record {
  later = omega arith;
  stands = stands;
  fits = fits;
  least = λ other d later before at h. omega (arith, later, before);
}

walk_from : (bag : List CertificateElements) (from : ℕ) (child : KeptCertificate) (parents : List KeptCertificate) (subject : DerElement)
    → StandAt bag (indices_from from (child ∷ parents)) (child ∷ parents)
    → length bag ≡ suc (from + length parents) → HasSubject subject child.elements → AreNamed child parents
    → IsWalkFrom bag from subject (indices_from from (child ∷ parents))
walk_from bag from child [] subject at all has named = (
  child.elements,
  least_here bag (HasSubject subject) from child.elements at.0 has,
  none_behind bag (HasSubject child.elements.tbs.issuer) (suc from) (suc from) (λ place c later before stands h. omega (arith, later, before))
      (omega (arith, all)),
)
walk_from bag from child (parent ∷ parents) subject at all has named = (
  child.elements,
  least_here bag (HasSubject subject) from child.elements at.0 has,
  walk_from bag (suc from) parent parents child.elements.tbs.issuer at.1 (omega (arith, all)) (ap encoding (sym named.0)) named.1,
)

others_from : (bag : List CertificateElements) (from : ℕ) (cert : KeptCertificate) (parents : List KeptCertificate)
    → StandAt bag (indices_from from parents) parents → HaveOtherSubjects cert parents
    → AreOthers bag cert.elements.tbs.subject (indices_from from parents) (indices_from from parents)
others_from bag from cert [] at others = refl
others_from bag from cert (parent ∷ parents) at others =
    inr (
      λ has. others.0 (subst (λ (c : CertificateElements). HasSubject cert.elements.tbs.subject c)
          (same_certificate bag from from parent.elements has.0 refl at.0 has.1) has.2),
      indices_from (suc from) parents,
      refl,
      others_from bag (suc from) cert parents at.1 others.1,
    )

named_in : (judge : Judge) (history : History) (certificates : List KeptCertificate) → IsIssued judge history certificates
    → (index : ℕ) (issuers : List ℕ) (child : KeptCertificate) (parents : List KeptCertificate)
    → AreIssuers history index issuers → HasCert certificates index child → AreCertsAt certificates issuers parents → AreNamed child parents
named_in judge history certificates issued index [] child [] under is are = tt
named_in judge history certificates issued index [] child (parent ∷ parents) under is are = absurd are
named_in judge history certificates issued index (issuer ∷ issuers) child [] under is are = absurd are
named_in judge history certificates issued index (issuer ∷ issuers) child (parent ∷ parents) under is are = (
  (issued.issued index issuer parent child under.0 are.0 is).name,
  named_in judge history certificates issued issuer issuers parent parents under.1 are.0 are.1,
)

-- ---- trust

module _ (judge : Judge) (history : History) (certificates : List KeptCertificate) (date : GeneralizedTime) (issuers : List ℕ) (cert : KeptCertificate)
    (parents : List KeptCertificate) (now : ℤ) (file_hash : List ℕ) (f : SignedDataElements)
    (s : IsSignerOf judge history certificates date issuers cert parents) (is_bag : IsBagOf f (elements_of (cert ∷ parents)))
    (vouches : VouchesFor judge f file_hash 0) where
  abbrev bag : List CertificateElements
  bag = elements_of (cert ∷ parents)

  abbrev policy : Policy
  policy = all_checks_at date now file_hash

  abbrev path : List ℕ
  path = indices_from 1 parents

  at : StandAt bag (indices_from 0 (cert ∷ parents)) (cert ∷ parents)
  at = stand_from bag [] 0 (cert ∷ parents) refl refl

  is_path : IsIssuerPath bag cert.elements path
  is_path =
      let named = named_in judge history certificates s.issued s.index issuers cert parents s.under s.is s.are in
      let all = length_of_elements parents in (
        indices_from 0 (cert ∷ parents),
        walk_from bag 0 cert parents cert.elements.tbs.subject at (omega (arith, all)) refl named,
        inl ((cert.elements, at.0, refl), others_from bag 1 cert parents at.1 s.others),
      )

  is_signer : IsSignerCertificate f bag 0 cert.elements
  is_signer =
      let signed = vouches.signed in
      let moved = subst (λ (b : List CertificateElements). IsSignerCertificate f b 0 signed.certificate) (same_bag f signed.bag bag signed.is_bag is_bag)
      signed.is_signer in
      subst (λ (c : CertificateElements). IsSignerCertificate f bag 0 c)
      (sym (same_certificate bag 0 0 signed.certificate cert.elements refl moved.stands at.0)) moved

  kept : IsKeptSigner f bag 0 cert
  kept = record { is_bag = is_bag; is_signer = is_signer }

  within : IsWithinWindow (window_on date) cert.elements
  within = within_window date s.step cert (s.issued.recorded s.index s.step cert s.has s.is) s.valid

  pub trusted : AreAllowed history date issuers → IsTrusted judge policy f (by_the_first_over parents)
  trusted allow = record {
    basic = λ _. record { hash = file_hash; given = refl; place = 0; vouches = vouches; place_is = refl };
    signing = λ _. record {
      bag = bag;
      place = 0;
      signer = cert;
      is = kept;
      place_is = refl;
      dated = λ asks absent. absurd cc;
      valid = record {
        begun = within.begun;
        lasts = within.lasts;
        path_is = record {
          is_path = is_path;
          linked = record {
            parents = parents;
            stand = at.1;
            linked = chain_linked judge history certificates date s.issued s.index issuers cert parents s.under s.is s.are allow;
          };
        };
      };
    };
    listed = λ _. record {
      bag = bag;
      is_bag = is_bag;
      place = 0;
      certificate = cert.elements;
      is_signer = is_signer;
      place_is = refl;
      listed = λ list is. absurd cc;
    };
    pathless = λ unasked. absurd cc;
    placeless = λ unasked. absurd cc;
  }

  -- the reported path is that of all others
  allowed_by : (reported : List ℕ) → IsVouchedPath judge (window_on date) bag cert reported → AreAllowed history date issuers
  allowed_by reported vouched =
      let same : reported ≡ path = one_path bag cert.elements reported path vouched.is_path is_path in
      let linked : AreLinkedAt judge (window_on date) bag cert path =
      subst (λ (places : List ℕ). AreLinkedAt judge (window_on date) bag cert places) same vouched.linked in
      let are : linked.parents ≡ parents = stand_once bag path linked.parents parents linked.stand at.1 in
      chain_allowed judge history certificates date s.issued s.index issuers cert parents s.under s.is s.are
      (subst (λ (ps : List KeptCertificate). IsLinkedChain judge (window_on date) cert ps) are linked.linked)

  pub allowed : (a : Accepted) → IsTrusted judge policy f a → AreAllowed history date issuers
  allowed a t =
      let v = t.signing refl in
      let once = signer_once f bag v.bag 0 v.place cert.elements v.signer.elements is_bag v.is.is_bag is_signer v.is.is_signer in
      let in_bag = subst (λ (b : List CertificateElements). IsVouchedPath judge (window_on date) b v.signer a.path) (same_bag f v.bag bag v.is.is_bag is_bag)
      v.valid.path_is in
      allowed_by a.path (subst (λ (c : KeptCertificate). IsVouchedPath judge (window_on date) bag c a.path) (kept_once v.signer cert once.1) in_bag)

  pub reported : (a : Accepted) → IsTrusted judge policy f a → a ≡ by_the_first_over parents
  reported a t = one_trusted judge policy f a (by_the_first_over parents) t (trusted (allowed a t))

  pub same_trusted : (a : Accepted) → a ≡ by_the_first_over parents → AreAllowed history date issuers → IsTrusted judge policy f a
  same_trusted a is allow = subst (λ (b : Accepted). IsTrusted judge policy f b) (sym is) (trusted allow)

pub if_ok : {A E : Type 0} (answer : Result A E) (P Q : A → Type 0) → ((a : A) → P a → Q a) → IfOk answer P → IfOk answer Q
if_ok (Ok a) P Q then holds = then a holds
if_ok (Err e) P Q then holds = holds
