-- There is one reason to excuse the expiry of a signer's certificate, or none, or a bad stamp with
-- one error.
use Rattle.std.proofs.Common.{◌≡◌, ℕ, List, inl, inr, refl, sym, ap, subst, ◌∙◌}
use Rattle.cms_types.specs.SignedDataElements.{SignedDataElements}
use Rattle.std.specs.Option.{option_copied}
use Rattle.der_core.specs.DerElement.{DerElement}
use Rattle.der_core.specs.Optional.{members_of}
use Rattle.der_core.specs.Rules.{IsFirstBroken, IsMet}
use Rattle.der_core.proofs.RuleLists.{AreMet, AreReturnedOnce, IsReturnedOnce, none_broken, one_broken}
use Rattle.key_core.specs.Verifying.{Judge}
use Rattle.x509_core.specs.OwnedCertificate.{KeptCertificate}
use Rattle.x509_core.specs.declared.error.CertError.{CertError}
use Rattle.x509_types.specs.CertificateElements.{CertificateElements}
use Rattle.std.specs.Prelude.{length}
use Rattle.authenticode_core.specs.Excuses.{AreOthersThan, HasBadStamp, HasNoExcuse, HasReason, HasToken, IsForStamping, IsLinkedToken}
use Rattle.authenticode_core.specs.Excuses.{IsListedToken, IsUnlinkedStamp, IsUnlinkedToken, IsUnlistedStamp, any_time, places_from, stamp_rules}
use Rattle.authenticode_core.specs.LinkedPath.{IsUnlinkedAt}
use Rattle.authenticode_core.specs.SigningRules.{IsBagOf}
use Rattle.authenticode_core.specs.TrustList.{name_rules}
use Rattle.authenticode_core.specs.declared.accepted.Excuse.{Excuse}
use Rattle.authenticode_core.specs.declared.accepted.Excuse.TheVariants as excuses
use Rattle.authenticode_core.specs.declared.ctl.CertificateTrustList.{CertificateTrustList}
use Rattle.authenticode_core.specs.declared.error.AuthenticodeError.{AuthenticodeError}
use Rattle.authenticode_core.specs.declared.error.AuthenticodeError.TheVariants as errors
use Rattle.authenticode_core.specs.declared.policy.Policy.{Policy}
use Rattle.authenticode_core.proofs.BagSteps.{one_bag}
use Rattle.authenticode_core.proofs.GivenLists.{given_once}
use Rattle.authenticode_core.proofs.OnList.{name_returned_once, on_list_unbroken}
use Rattle.authenticode_core.proofs.OneCa.{name_once}
use Rattle.authenticode_core.proofs.OnePath.{kept_at_once, linked_is_not_broken, unlinked_once}
use Rattle.authenticode_core.proofs.Tokens.{token_once}
use Rattle.authenticode_core.proofs.WalkSteps.{same_others}

-- ---- reasons

module _ (judge : Judge) (policy : Policy) (f : SignedDataElements) (bag : List CertificateElements) (c : CertificateElements) where
  pub reason_once : (a b : Excuse) → HasReason judge policy f bag c a → HasReason judge policy f bag c b → a ≡ b
  reason_once excuses.None b p q = absurd p
  reason_once a excuses.None p q = absurd q
  reason_once excuses.Bag excuses.Bag p q = refl
  reason_once excuses.Bag excuses.Token p q = absurd (q.1 p.1)
  reason_once excuses.Token excuses.Bag p q = absurd (p.1 q.1)
  reason_once excuses.Token excuses.Token p q = refl

  pub reason_or_not : (x : Excuse) → HasReason judge policy f bag c x → HasNoExcuse f bag c → ⊥
  reason_or_not excuses.None p none = p
  reason_or_not excuses.Bag p (inl lifetime) = p.0 lifetime
  reason_or_not excuses.Bag p (inr none) = none.0 p.1
  reason_or_not excuses.Token p (inl lifetime) = p.0 lifetime
  reason_or_not excuses.Token p (inr none) = none.1 p.2.t p.2.bag p.2.has p.2.stamping

  pub bad_stamp_is_returned : (e : AuthenticodeError) → HasBadStamp judge policy f bag c e → HasNoExcuse f bag c → ⊥
  bad_stamp_is_returned e bad (inl lifetime) = bad.mortal lifetime
  bad_stamp_is_returned e bad (inr none) = none.1 bad.t bad.stamping_bag bad.has bad.stamping

-- ---- the bag of the token, which is unique

same_stamping_bag : (f s t : SignedDataElements) (a b : List CertificateElements) → HasToken f s → HasToken f t → IsForStamping s a → IsForStamping t b → a ≡ b
same_stamping_bag f s t a b p q first second =
    one_bag (members_of t.certificates) a b (subst (λ (x : SignedDataElements). IsBagOf x a) (token_once f s t p q) first.is_bag) second.is_bag

-- ---- bad stamps

same_places : (bag : List CertificateElements) (a b : KeptCertificate) (p q : List ℕ) → a ≡ b → AreOthersThan bag a.elements p
    → AreOthersThan bag b.elements q → p ≡ q
same_places bag a b p q e first second =
    same_others bag b.elements.tbs.subject (places_from 0 (length bag)) p q (subst (λ (k : KeptCertificate). AreOthersThan bag k.elements p) e first) second

moved : (judge : Judge) (bag : List CertificateElements) (a b : KeptCertificate) (p q : List ℕ) (e : CertError) → a ≡ b → p ≡ q
    → IsUnlinkedAt judge any_time bag a p e → IsUnlinkedAt judge any_time bag b q e
moved judge bag a b p q e first places unlinked =
    subst (λ (path : List ℕ). IsUnlinkedAt judge any_time bag b path e) places
    (subst (λ (k : KeptCertificate). IsUnlinkedAt judge any_time bag k p e) first unlinked)

unlinked_token_once : (judge : Judge) (bag : List CertificateElements) (a b : CertError) → IsUnlinkedToken judge bag a → IsUnlinkedToken judge bag b → a ≡ b
unlinked_token_once judge bag a b p q =
    let first = kept_at_once bag 0 p.first q.first p.stands q.stands in
    let places = same_places bag p.first q.first p.places q.places first p.others q.others in
    unlinked_once judge any_time bag q.first q.places a b (moved judge bag p.first q.first p.places q.places a first places p.unlinked) q.unlinked

linked_token_is_not_broken : (judge : Judge) (bag : List CertificateElements) (e : CertError) → IsLinkedToken judge bag → IsUnlinkedToken judge bag e → ⊥
linked_token_is_not_broken judge bag e p q =
    let first = kept_at_once bag 0 q.first p.first q.stands p.stands in
    let places = same_places bag q.first p.first q.places p.places first q.others p.others in
    linked_is_not_broken judge any_time bag p.first p.places e p.linked (moved judge bag q.first p.first q.places p.places e first places q.unlinked)

-- the CA of a token's bag is on the list, or has one refusal
unlisted_stamp_once : (policy : Policy) (bag : List CertificateElements) → IsReturnedOnce (IsUnlistedStamp policy bag)
unlisted_stamp_once policy bag = λ a b p q.
    let list = given_once (option_copied policy.list) p.0 q.0 p.1 q.1 in
    let ca = name_once bag (places_from 0 (length bag)) p.2 q.2 p.3 q.3 in
    let there = subst (λ (name : DerElement). IsFirstBroken (name_rules q.0 policy.now name) a) ca
    (subst (λ (l : CertificateTrustList). IsFirstBroken (name_rules l policy.now p.2) a) list p.4) in
    name_returned_once q.0 policy.now q.2 a b there q.4

listed_stamp_met : (policy : Policy) (bag : List CertificateElements) → IsListedToken policy bag → IsMet (IsUnlistedStamp policy bag)
listed_stamp_met policy bag listed = λ e broken.
    let on = listed broken.0 broken.1 in
    let there = subst (λ (name : DerElement). IsFirstBroken (name_rules broken.0 policy.now name) e)
    (name_once bag (places_from 0 (length bag)) broken.2 on.0 broken.3 on.1) broken.4 in
    on_list_unbroken broken.0 policy.now on.0 e on.2 there

-- ---- the rules of a token's bag

unlinked_stamp_once : (judge : Judge) (bag : List CertificateElements) → IsReturnedOnce (IsUnlinkedStamp judge bag)
unlinked_stamp_once judge bag = λ a b p q.
    p.2 ∙ ap errors.InvalidTimestampCert (unlinked_token_once judge bag p.0 q.0 p.1 q.1) ∙ sym q.2

stamp_returned : (judge : Judge) (policy : Policy) (bag : List CertificateElements) → AreReturnedOnce (stamp_rules judge policy bag)
stamp_returned judge policy bag = (unlinked_stamp_once judge bag, (unlisted_stamp_once policy bag, tt))

pub linked_stamp_met : (judge : Judge) (bag : List CertificateElements) → IsLinkedToken judge bag → IsMet (IsUnlinkedStamp judge bag)
linked_stamp_met judge bag linked = λ e broken. linked_token_is_not_broken judge bag broken.0 linked broken.1

stamp_met : (judge : Judge) (policy : Policy) (bag : List CertificateElements) → IsLinkedToken judge bag → IsListedToken policy bag
    → AreMet (stamp_rules judge policy bag)
stamp_met judge policy bag linked listed = (linked_stamp_met judge bag linked, (listed_stamp_met policy bag listed, tt))

module _ (judge : Judge) (policy : Policy) (f : SignedDataElements) (bag : List CertificateElements) (c : CertificateElements) where
  pub stamp_once : (a b : AuthenticodeError) → HasBadStamp judge policy f bag c a → HasBadStamp judge policy f bag c b → a ≡ b
  stamp_once a b p q =
      let bags = same_stamping_bag f p.t q.t p.stamping_bag q.stamping_bag p.has q.has p.stamping q.stamping in
      one_broken (stamp_rules judge policy q.stamping_bag) (stamp_returned judge policy q.stamping_bag) a b
      (subst (λ (other : List CertificateElements). IsFirstBroken (stamp_rules judge policy other) a) bags p.broken) q.broken

  pub bad_stamp_is_no_reason : (e : AuthenticodeError) (x : Excuse) → HasBadStamp judge policy f bag c e → HasReason judge policy f bag c x → ⊥
  bad_stamp_is_no_reason e excuses.None bad p = p
  bad_stamp_is_no_reason e excuses.Bag bad p = bad.unnamed p.1
  bad_stamp_is_no_reason e excuses.Token bad p =
      let s = p.2 in
      let bags = same_stamping_bag f bad.t s.t bad.stamping_bag s.bag bad.has s.has bad.stamping s.stamping in
      none_broken (stamp_rules judge policy s.bag) (stamp_met judge policy s.bag s.linked s.listed) e
      (subst (λ (other : List CertificateElements). IsFirstBroken (stamp_rules judge policy other) e) bags bad.broken)
