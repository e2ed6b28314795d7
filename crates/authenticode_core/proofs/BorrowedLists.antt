-- What is answered under a policy doesn't depend on where its trust list is borrowed from.
use Rattle.std.proofs.Common.{◌≡◌, Bool, true, false, List, [], ◌∷◌, ◌++◌, ℕ, Option, Some, Result, Ok, Err, inl, inr, sym, ◌∙◌, length, subst}
use Rattle.std.specs.Prelude.{⊤}
use Rattle.std.specs.Borrow.{Bor}
use Rattle.std.specs.Option.{option_copied}
use Rattle.cms_types.specs.SignedDataElements.{SignedDataElements}
use Rattle.der_core.specs.DerElement.{DerElement}
use Rattle.der_core.specs.Rules.{Rule, IsFirstBroken}
use Rattle.key_core.specs.Verifying.{Judge}
use Rattle.x509_core.specs.OwnedCertificate.{KeptCertificate}
use Rattle.x509_types.specs.CertificateElements.{CertificateElements}
use Rattle.authenticode_core.specs.AuthorityName.{IsNameAt}
use Rattle.authenticode_core.specs.Excuses.{HasBadStamp, HasReason, IsExcused, IsStamped, IsUnlistedStamp, places_from, stamp_rules}
use Rattle.authenticode_core.specs.ListRules.{HasUntrustedCa, IsOffList, IsSignerListed, IsTrustedCa, ca_rules}
use Rattle.authenticode_core.specs.SignerRules.{IsBadlyStamped, IsSignerVouched, IsValidAndVouched, IsUnbegun, IsUnexcused}
use Rattle.authenticode_core.specs.SignerRules.{IsUnvouched, IsValidOrExcusable, LastsOrIsExcused, signer_rules}
use Rattle.authenticode_core.specs.TrustList.{IsOnList, name_rules}
use Rattle.authenticode_core.specs.Trusted.{IsAnswer, IsTrusted, asked, basic_rules, policy_rules}
use Rattle.authenticode_core.specs.declared.accepted.Accepted.{Accepted}
use Rattle.authenticode_core.specs.declared.accepted.Excuse.{Excuse}
use Rattle.authenticode_core.specs.declared.accepted.Excuse.TheVariants as excuses
use Rattle.authenticode_core.specs.declared.ctl.CertificateTrustList.{CertificateTrustList}
use Rattle.authenticode_core.specs.declared.error.AuthenticodeError.{AuthenticodeError}
use Rattle.authenticode_core.specs.declared.error.CheckError.{CheckError}
use Rattle.authenticode_core.specs.declared.error.CheckError.TheVariants.{Win, Authenticode, Memory}
use Rattle.authenticode_core.specs.declared.policy.Policy.{Policy}

-- ---- rules that are broken alike

abbrev AreAlike : {E : Type 0} → List (E → Type 0) → List (E → Type 0) → Type 0
AreAlike [] [] = ⊤
AreAlike [] (s ∷ ss) = ⊥
AreAlike (r ∷ rs) [] = ⊥
AreAlike {E} (r ∷ rs) (s ∷ ss) = (((e : E) → r e → s e) × ((e : E) → s e → r e)) × AreAlike rs ss

first_broken : {E : Type 0} (rs ss : List (E → Type 0)) → AreAlike rs ss → (e : E) → IsFirstBroken rs e → IsFirstBroken ss e
first_broken [] [] alike e h = h
first_broken [] (s ∷ ss) alike e h = absurd alike
first_broken (r ∷ rs) [] alike e h = absurd alike
first_broken (r ∷ rs) (s ∷ ss) alike e (inl h) = inl (alike.0.0 e h)
first_broken (r ∷ rs) (s ∷ ss) alike e (inr h) = inr (λ f is. h.0 f (alike.0.1 f is), first_broken rs ss alike.1 e h.1)

same_rules : {E : Type 0} (rs : List (E → Type 0)) → AreAlike rs rs
same_rules [] = tt
same_rules (r ∷ rs) = ((λ e h. h, λ e h. h), same_rules rs)

joined : {E : Type 0} (rs ss us vs : List (E → Type 0)) → AreAlike rs ss → AreAlike us vs → AreAlike (rs ++ us) (ss ++ vs)
joined [] [] us vs a b = b
joined [] (s ∷ ss) us vs a b = absurd a
joined (r ∷ rs) [] us vs a b = absurd a
joined (r ∷ rs) (s ∷ ss) us vs a b = (a.0, joined rs ss us vs a.1 b)

asked_alike : (on : Bool) (rs ss : List (Rule AuthenticodeError)) → AreAlike rs ss → AreAlike (asked on rs) (asked on ss)
asked_alike true rs ss alike = alike
asked_alike false rs ss alike = tt

-- ---- policies that differ in where their list is borrowed from

abbrev Lent : Type 0
Lent = Option (Bor CertificateTrustList)

-- the policy with this list
abbrev pub under : Policy → Option (Bor CertificateTrustList) → Policy
under p given = record p { list = given }

abbrev AreSame : Lent → Lent → Type 0
AreSame x y = option_copied x ≡ option_copied y

module _ (judge : Judge) (p : Policy) (f : SignedDataElements) where
  stamped : (x y : Lent) → AreSame x y → IsStamped judge (under p x) f → IsStamped judge (under p y) f
  stamped x y same h = record {
    t = h.t;
    has = h.has;
    bag = h.bag;
    stamping = h.stamping;
    linked = h.linked;
    listed = λ list is. h.listed list (same ∙ is);
  }

  reason : (x y : Lent) → AreSame x y → (bag : List CertificateElements) (c : CertificateElements) (excuse : Excuse)
      → HasReason judge (under p x) f bag c excuse → HasReason judge (under p y) f bag c excuse
  reason x y same bag c excuses.None h = h
  reason x y same bag c excuses.Bag h = h
  reason x y same bag c excuses.Token h = (h.0, h.1, stamped x y same h.2)

  excused : (x y : Lent) → AreSame x y → (bag : List CertificateElements) (signer : KeptCertificate) (path : List ℕ) (excuse : Excuse)
      → IsExcused judge (under p x) f bag signer path excuse → IsExcused judge (under p y) f bag signer path excuse
  excused x y same bag signer path excuse h = record { reason = reason x y same bag signer.elements excuse h.reason; path_is = h.path_is }

  lasts : (x y : Lent) → AreSame x y → (bag : List CertificateElements) (signer : KeptCertificate) (path : List ℕ) (excuse : Excuse)
      → LastsOrIsExcused judge (under p x) f bag signer path excuse → LastsOrIsExcused judge (under p y) f bag signer path excuse
  lasts x y same bag signer path excuses.None h = h
  lasts x y same bag signer path excuses.Bag h = (h.0, excused x y same bag signer path excuses.Bag h.1)
  lasts x y same bag signer path excuses.Token h = (h.0, excused x y same bag signer path excuses.Token h.1)

  valid_there : (x y : Lent) → AreSame x y → (bag : List CertificateElements) (signer : KeptCertificate) (path : List ℕ) (excuse : Excuse)
      → IsValidAndVouched judge (under p x) f bag signer path excuse → IsValidAndVouched judge (under p y) f bag signer path excuse
  valid_there x y same bag signer path excuse h = record { begun = h.begun; lasts = lasts x y same bag signer path excuse h.lasts; path_is = h.path_is }

  vouched : (x y : Lent) → AreSame x y → (a : Accepted) → IsSignerVouched judge (under p x) f a → IsSignerVouched judge (under p y) f a
  vouched x y same a h = record {
    bag = h.bag;
    place = h.place;
    signer = h.signer;
    is = h.is;
    place_is = h.place_is;
    dated = h.dated;
    valid = valid_there x y same h.bag h.signer a.path a.excuse h.valid;
  }

  listed : (x y : Lent) → AreSame x y → (a : Accepted) → IsSignerListed (under p x) f a → IsSignerListed (under p y) f a
  listed x y same a h = record {
    bag = h.bag;
    is_bag = h.is_bag;
    place = h.place;
    certificate = h.certificate;
    is_signer = h.is_signer;
    place_is = h.place_is;
    listed = λ list is. h.listed list (same ∙ is);
  }

  trusted : (x y : Lent) → AreSame x y → (a : Accepted) → IsTrusted judge (under p x) f a → IsTrusted judge (under p y) f a
  trusted x y same a h = record {
    basic = h.basic;
    signing = λ on. vouched x y same a (h.signing on);
    listed = λ on. listed x y same a (h.listed on);
    pathless = h.pathless;
    placeless = h.placeless;
  }

  -- ---- rules

  unlisted_stamp : (x y : Lent) → AreSame x y → (bag : List CertificateElements) (e : AuthenticodeError) → IsUnlistedStamp (under p x) bag e
      → IsUnlistedStamp (under p y) bag e
  unlisted_stamp x y same bag e h =
      subst (λ (o : Option CertificateTrustList). (list : CertificateTrustList) × (o ≡ Some list) × (ca : DerElement)
      × IsNameAt bag (places_from 0 (length bag)) ca × IsFirstBroken (name_rules list p.now ca) e) same h

  bad_stamp : (x y : Lent) → AreSame x y → (bag : List CertificateElements) (c : CertificateElements) (e : AuthenticodeError)
      → HasBadStamp judge (under p x) f bag c e → HasBadStamp judge (under p y) f bag c e
  bad_stamp x y same bag c e h = record {
    mortal = h.mortal;
    unnamed = h.unnamed;
    t = h.t;
    has = h.has;
    stamping_bag = h.stamping_bag;
    stamping = h.stamping;
    broken = first_broken (stamp_rules judge (under p x) h.stamping_bag) (stamp_rules judge (under p y) h.stamping_bag)
        ((λ e is. is, λ e is. is), ((unlisted_stamp x y same h.stamping_bag, unlisted_stamp y x (sym same) h.stamping_bag), tt)) e h.broken;
  }

  unbegun : (x y : Lent) (e : AuthenticodeError) → IsUnbegun (under p x) f e → IsUnbegun (under p y) f e
  unbegun x y e h = record {
    bag = h.bag;
    place = h.place;
    signer = h.signer;
    is = h.is;
    unexpired = h.unexpired;
    cause = h.cause;
    outside = h.outside;
    returned = h.returned;
  }

  unexcused : (x y : Lent) (e : AuthenticodeError) → IsUnexcused (under p x) f e → IsUnexcused (under p y) f e
  unexcused x y e h = record {
    bag = h.bag;
    place = h.place;
    signer = h.signer;
    is = h.is;
    expired = h.expired;
    unexcused = h.unexcused;
    cause = h.cause;
    outside = h.outside;
    returned = h.returned;
  }

  badly_stamped : (x y : Lent) → AreSame x y → (e : AuthenticodeError) → IsBadlyStamped judge (under p x) f e → IsBadlyStamped judge (under p y) f e
  badly_stamped x y same e h = record {
    bag = h.bag;
    place = h.place;
    signer = h.signer;
    is = h.is;
    expired = h.expired;
    stamp = bad_stamp x y same h.bag h.signer.elements e h.stamp;
  }

  excusable : (x y : Lent) → AreSame x y → (bag : List CertificateElements) (c : CertificateElements) (excuse : Excuse)
      → IsValidOrExcusable judge (under p x) f bag c excuse → IsValidOrExcusable judge (under p y) f bag c excuse
  excusable x y same bag c excuses.None h = h
  excusable x y same bag c excuses.Bag h = h
  excusable x y same bag c excuses.Token h = (h.0, reason x y same bag c excuses.Token h.1)

  unvouched : (x y : Lent) → AreSame x y → (e : AuthenticodeError) → IsUnvouched judge (under p x) f e → IsUnvouched judge (under p y) f e
  unvouched x y same e h = record {
    bag = h.bag;
    place = h.place;
    signer = h.signer;
    is = h.is;
    excuse = h.excuse;
    valid = excusable x y same h.bag h.signer.elements h.excuse h.valid;
    asked = h.asked;
    path = h.path;
    is_path = h.is_path;
    cause = h.cause;
    unlinked = h.unlinked;
    returned = h.returned;
  }

  untrusted : (x y : Lent) → AreSame x y → (e : AuthenticodeError) → HasUntrustedCa (under p x) f e → HasUntrustedCa (under p y) f e
  untrusted x y same e h = subst (λ (o : Option CertificateTrustList). (list : CertificateTrustList) × (o ≡ Some list) × IsOffList p f list e) same h

  signers_alike : (x y : Lent) → AreSame x y → AreAlike (signer_rules judge (under p x) f) (signer_rules judge (under p y) f)
  signers_alike x y same = (
    (λ e h. h, λ e h. h),
    (
      (λ e h. h, λ e h. h),
      (
        (λ e h. h, λ e h. h),
        (
          (λ e h. h, λ e h. h),
          (
            (unbegun x y, unbegun y x),
            (
              (unexcused x y, unexcused y x),
              (
                (badly_stamped x y same, badly_stamped y x (sym same)),
                (
                  (unvouched x y same, unvouched y x (sym same)),
                  tt,
                ),
              ),
            ),
          ),
        ),
      ),
    ),
  )

  cas_alike : (x y : Lent) → AreSame x y → AreAlike (ca_rules (under p x) f) (ca_rules (under p y) f)
  cas_alike x y same = ((λ e h. h, λ e h. h), ((λ e h. h, λ e h. h), ((λ e h. h, λ e h. h), ((untrusted x y same, untrusted y x (sym same)), tt))))

  rules_alike : (x y : Lent) → AreSame x y → AreAlike (policy_rules judge (under p x) f) (policy_rules judge (under p y) f)
  rules_alike x y same =
      joined (asked p.basic (basic_rules judge f p.file_hash)) (asked p.basic (basic_rules judge f p.file_hash)) _ _
      (same_rules (asked p.basic (basic_rules judge f p.file_hash)))
      (joined (asked p.signing (signer_rules judge (under p x) f)) (asked p.signing (signer_rules judge (under p y) f))
      (asked p.against_list (ca_rules (under p x) f)) (asked p.against_list (ca_rules (under p y) f))
      (asked_alike p.signing (signer_rules judge (under p x) f) (signer_rules judge (under p y) f) (signers_alike x y same))
      (asked_alike p.against_list (ca_rules (under p x) f) (ca_rules (under p y) f) (cas_alike x y same)))

-- what is answered under the one is answered under the other
pub answer_under : (judge : Judge) (p : Policy) (x y : Option (Bor CertificateTrustList)) → option_copied x ≡ option_copied y
    → (octets : List ℕ) (r : Result Accepted CheckError)
    → IsAnswer judge (under p x) octets r → IsAnswer judge (under p y) octets r
answer_under judge p x y same octets (Ok accepted) h = (h.0, h.1, trusted judge p h.0 x y same accepted h.2)
answer_under judge p x y same octets (Err (Win e)) h = h
answer_under judge p x y same octets (Err (Authenticode e)) (inl unread) = inl unread
answer_under judge p x y same octets (Err (Authenticode e)) (inr h) =
    inr (h.0, h.1, first_broken (policy_rules judge (under p x) h.0) (policy_rules judge (under p y) h.0) (rules_alike judge p h.0 x y same) e h.2)
answer_under judge p x y same octets (Err Memory) h = tt
