-- A name that is listed breaks no rule, and the first broken rule is reported by one error.
use Rattle.std.proofs.Common.{◌≡◌, ℕ, ℤ, ◌<◌, ◌≤◌, ◌≤ℤ◌, List, [], ◌∷◌, length, sym, ap, subst, ◌∙◌, inl, inr, arith}
use Rattle.std.proofs.lemmas.Int.{ints}
use Rattle.cms_content.specs.declared.ctl_attribute.CTLEntryAttribute.{CTLEntryAttribute}
use Rattle.cms_content.specs.declared.ctl_entry.CTLEntry.{CTLEntry}
use Rattle.cms_content.specs.declared.ctl_kind.CtlKind.TheVariants as kinds
use Rattle.cms_content.specs.declared.ctl_values.CTLEntryAttributeValues.TheVariants as values
use Rattle.cms_content.specs.declared.held_purposes.HeldPurposes.{HeldPurposes}
use Rattle.der_core.specs.Rules.{IsFirstBroken, IsMet}
use Rattle.der_core.proofs.RuleLists.{AreMet, AreReturnedOnce, IsReturnedOnce, met_together, none_broken, one_broken}
use Rattle.md5.specs.Md5.{md5}
use Rattle.cms_content.specs.Attributes.{HasBegins, HasDigest, HasEnds, HasUsages, IsOfKind}
use Rattle.cms_content.specs.FileTime.{seconds_of}
use Rattle.cms_content.specs.Listing.{BeginsEarlier, BeginsWell, EndsLater, EndsWell, HasBadEntry, HasEnded, HasNoBeginning, HasNoEnd, HasNoEntry, HasNotBegun}
use Rattle.cms_content.specs.Listing.{IsEntryOf, IsGoodEntry, IsListed, IsRevoked, LacksTime, beginning_rules, end_rules, entry_rules, listing_rules}
use Rattle.cms_content.specs.declared.listing.error.ListingError.{ListingError}
use Rattle.cms_content.specs.declared.listing.error.ListingError.TheVariants as errors
use Rattle.cms_content.proofs.FirstMembers.{first_once, first_or_none}

-- ---- values of the first attribute of a kind

one_end : (a b : List (List ℕ)) → values.CertDisallowedFileTimePropId a ≡ values.CertDisallowedFileTimePropId b → a ≡ b
one_end a b e = cc

pub ends_once : (entry : CTLEntry) (a b : List (List ℕ)) → HasEnds entry a → HasEnds entry b → a ≡ b
ends_once entry a b p q =
    let same = first_once (IsOfKind kinds.CertDisallowedFileTimePropId) entry.attributes p.0 q.0 p.1 q.1 in
    one_end a b (sym p.2 ∙ ap (λ (x : CTLEntryAttribute). x.value) same ∙ q.2)

one_beginning : (a b : List (List ℕ)) → values.UnknownReservedPropId126 a ≡ values.UnknownReservedPropId126 b → a ≡ b
one_beginning a b e = cc

one_usage : (a b : List HeldPurposes) → values.UnknownReservedPropId127 a ≡ values.UnknownReservedPropId127 b → a ≡ b
one_usage a b e = cc

pub usages_once : (entry : CTLEntry) (a b : List HeldPurposes) → HasUsages entry a → HasUsages entry b → a ≡ b
usages_once entry a b p q =
    let same = first_once (IsOfKind kinds.UnknownReservedPropId127) entry.attributes p.0 q.0 p.1 q.1 in
    one_usage a b (sym p.2 ∙ ap (λ (x : CTLEntryAttribute). x.value) same ∙ q.2)

pub begins_once : (entry : CTLEntry) (a b : List (List ℕ)) → HasBegins entry a → HasBegins entry b → a ≡ b
begins_once entry a b p q =
    let same = first_once (IsOfKind kinds.UnknownReservedPropId126) entry.attributes p.0 q.0 p.1 q.1 in
    one_beginning a b (sym p.2 ∙ ap (λ (x : CTLEntryAttribute). x.value) same ∙ q.2)

pub one_head : (a b : List ℕ) (x y : List (List ℕ)) → a ∷ x ≡ b ∷ y → a ≡ b
one_head a b x y e = cc

pub no_head : (a : List ℕ) (x : List (List ℕ)) → [] ≡ a ∷ x → ⊥
no_head a x e = absurd cc

-- ---- a good entry breaks no rule

module _ (entry : CTLEntry) (now : ℤ) where
  lasting_value : (value : List ℕ) (others : List (List ℕ)) → EndsLater now (value ∷ others) → (8 ≤ length value) × (now ≤ℤ seconds_of value)
  lasting_value value others later =
      let same = one_head later.0 value later.1 others (sym later.2) in
      (subst (λ (v : List ℕ). 8 ≤ length v) same later.3, subst (λ (v : List ℕ). now ≤ℤ seconds_of v) same later.4)

  begun_value : (times : List (List ℕ)) → BeginsEarlier entry now times → LacksTime times → ⊥
  begun_value times earlier lacks =
      let short : length earlier.0 < 8 = subst LacksTime earlier.2 lacks in
      omega (arith, short, earlier.3)

  end_met : EndsWell entry now → IsMet (HasNoEnd entry)
  end_met well = λ e broken. let later = well [] broken.0 in no_head later.0 later.1 later.2

  revoked_met : EndsWell entry now → IsMet (IsRevoked entry)
  revoked_met well = λ e broken.
      let v = lasting_value broken.0 broken.1 (well (broken.0 ∷ broken.1) broken.2) in
      omega (arith, v.0, broken.3)

  ended_met : EndsWell entry now → IsMet (HasEnded entry now)
  ended_met well = λ e broken.
      let v = lasting_value broken.value broken.others (well (broken.value ∷ broken.others) broken.ends) in
      omega (arith, ints, v.1, broken.passed)

  beginning_met : BeginsWell entry now → IsMet (HasNoBeginning entry)
  beginning_met well = λ e broken. begun_value broken.0 (well broken.0 broken.1) broken.2

  too_early : (e : ListingError) (broken : HasNotBegun entry now e) → BeginsEarlier entry now (broken.value ∷ broken.others) → ⊥
  too_early e broken (value, others, same, whole, inl earlier) =
      let there : seconds_of broken.value ≤ℤ now =
      subst (λ (v : List ℕ). seconds_of v ≤ℤ now) (one_head value broken.value others broken.others (sym same)) earlier in
      omega (arith, ints, there, broken.early)
  too_early e broken (value, others, same, whole, inr said) = broken.applies said

  begun_met : BeginsWell entry now → IsMet (HasNotBegun entry now)
  begun_met well = λ e broken. too_early e broken (well (broken.value ∷ broken.others) broken.begins)

  pub lasting_met : EndsWell entry now → AreMet (end_rules entry now)
  lasting_met well = (end_met well, (revoked_met well, (ended_met well, tt)))

  pub beginning_is_met : BeginsWell entry now → AreMet (beginning_rules entry now)
  beginning_is_met well = (beginning_met well, (begun_met well, tt))

  pub good_is_met : IsGoodEntry entry now → AreMet (entry_rules entry now)
  good_is_met good = met_together (end_rules entry now) (beginning_rules entry now) (lasting_met good.ends) (beginning_is_met good.begins)

  -- ---- each is reported by one error

  ended_once : IsReturnedOnce (HasEnded entry now)
  ended_once = λ a b p q.
      let same = one_head p.value q.value p.others q.others (ends_once entry (p.value ∷ p.others) (q.value ∷ q.others) p.ends q.ends) in
      p.returned ∙ ap (λ (v : List ℕ). errors.Expired (seconds_of v) now) same ∙ sym q.returned

  begun_once : IsReturnedOnce (HasNotBegun entry now)
  begun_once = λ a b p q.
      let same = one_head p.value q.value p.others q.others (begins_once entry (p.value ∷ p.others) (q.value ∷ q.others) p.begins q.begins) in
      p.returned ∙ ap (λ (v : List ℕ). errors.NotYetValid (seconds_of v) now) same ∙ sym q.returned

  pub entry_returned : AreReturnedOnce (entry_rules entry now)
  entry_returned = (λ a b p q. p.1 ∙ sym q.1, (λ a b p q. p.4 ∙ sym q.4, (ended_once, (λ a b p q. p.3 ∙ sym q.3, (begun_once, tt)))))

-- ---- names

module _ (entries : List CTLEntry) (name : List ℕ) (now : ℤ) where
  one_entry : (a b : CTLEntry) → IsEntryOf entries name a → IsEntryOf entries name b → a ≡ b
  one_entry a b p q = first_once (HasDigest (md5 name)) entries a b p q

  no_entry_met : IsListed entries name now → IsMet (HasNoEntry entries name)
  no_entry_met listed = λ e broken. first_or_none (HasDigest (md5 name)) entries listed.0 listed.1 broken.0

  bad_entry_met : IsListed entries name now → IsMet (HasBadEntry entries name now)
  bad_entry_met listed = λ e broken.
      let good = subst (λ (entry : CTLEntry). IsGoodEntry entry now) (one_entry listed.0 broken.0 listed.1 broken.1) listed.2 in
      none_broken (entry_rules broken.0 now) (good_is_met broken.0 now good) e broken.2

  pub listed_is_met : IsListed entries name now → AreMet (listing_rules entries name now)
  listed_is_met listed = (no_entry_met listed, (bad_entry_met listed, tt))

  bad_entry_once : IsReturnedOnce (HasBadEntry entries name now)
  bad_entry_once = λ a b p q.
      let there = subst (λ (entry : CTLEntry). IsFirstBroken (entry_rules entry now) a) (one_entry p.0 q.0 p.1 q.1) p.2 in
      one_broken (entry_rules q.0 now) (entry_returned q.0 now) a b there q.2

  pub listing_returned : AreReturnedOnce (listing_rules entries name now)
  listing_returned = (λ a b p q. p.1 ∙ sym q.1, (bad_entry_once, tt))

  pub listed_unbroken : (e : ListingError) → IsListed entries name now → IsFirstBroken (listing_rules entries name now) e → ⊥
  listed_unbroken e listed broken = none_broken (listing_rules entries name now) (listed_is_met listed) e broken

  pub listing_once : (a b : ListingError) → IsFirstBroken (listing_rules entries name now) a → IsFirstBroken (listing_rules entries name now) b → a ≡ b
  listing_once a b p q = one_broken (listing_rules entries name now) listing_returned a b p q
