-- The steps of a listing: the result of each.
use Rattle.std.proofs.Common.{◌≡◌, ◌↔◌, ◌⊎◌, ℕ, ℤ, ◌<◌, ◌≤◌, ◌<ℤ◌, ◌≤ℤ◌, List, [], ◌∷◌, length, Bool, true, false, not}
use Rattle.std.proofs.Common.{IsTrue, Some, None, Result, Ok, Err, MatchResult, refl, sym, ap, subst, inl, inr, arith}
use Rattle.std.specs.Prelude.{slice_get}
use Rattle.std.proofs.lemmas.Bool.{false≢true}
use Rattle.cms_content.specs.declared.ctl_entry.CTLEntry.{CTLEntry}
use Rattle.cms_content.specs.declared.held_purposes.HeldPurposes.{HeldPurposes}
use Rattle.der_core.specs.Rules.{IsFirstBroken, IsMet}
use Rattle.der_core.proofs.RuleLists.{broken_before, broken_behind}
use Rattle.md5.specs.Md5.{md5}
use Rattle.cms_content.specs.Attributes.{HasBegins, HasDigest, HasEnds, HasUsages}
use Rattle.cms_content.specs.FileTime.{seconds_of}
use Rattle.cms_content.specs.First.{HoldsOfNone, HoldsOfSome}
use Rattle.cms_content.specs.Listing.{BeginsWell, EndsWell, HasNoBeginning, HasNoEnd, HasNoEntry, IsCodeSigning, IsEntryOf}
use Rattle.cms_content.specs.Listing.{IsListed, IsRevoked, IsForOthers, LacksTime, beginning_rules, end_rules, listing_rules}
use Rattle.cms_content.specs.declared.listing.error.ListingError.{ListingError}
use Rattle.cms_content.specs.declared.listing.error.ListingError.TheVariants as errors
use Rattle.cms_content.proofs.FirstMembers.{first_or_none}
use Rattle.cms_content.proofs.OneListing.{begins_once, ends_once, lasting_met, no_head, one_head, usages_once}

-- ---- the first value

module _ {X : Type 0} where
  pub no_first : (xs : List X) → None ≡ slice_get xs 0 → xs ≡ []
  no_first [] e = refl
  no_first (x ∷ xs) e = absurd (cc e)

  pub some_first : (xs : List X) (first : X) → Some first ≡ slice_get xs 0 → (others : List X) × (xs ≡ first ∷ others)
  some_first [] first e = absurd (cc e)
  some_first (x ∷ xs) first e =
      let same : x ≡ first = cc e in
      (xs, ap (λ (y : X). y ∷ xs) same)

-- ---- the end of an entry

module _ (entry : CTLEntry) (now : ℤ) where
  pub lasts_without : ((times : List (List ℕ)) → HasEnds entry times → ⊥) → EndsWell entry now
  lasts_without none times has = absurd (none times has)

  pub end_missing : (times : List (List ℕ)) → HasEnds entry times → None ≡ slice_get times 0 → IsFirstBroken (end_rules entry now) errors.MalformedEntry
  end_missing times has none = inl (subst (λ (ts : List (List ℕ)). HasEnds entry ts) (no_first times none) has, refl)

  no_end_met : (value : List ℕ) (others : List (List ℕ)) → HasEnds entry (value ∷ others) → IsMet (HasNoEnd entry)
  no_end_met value others has = λ e broken. no_head value others (ends_once entry [] (value ∷ others) broken.0 has)

  whole_met : (value : List ℕ) (others : List (List ℕ)) → HasEnds entry (value ∷ others) → 8 ≤ length value → IsMet (IsRevoked entry)
  whole_met value others has whole = λ e broken.
      let same = one_head broken.0 value broken.1 others (ends_once entry (broken.0 ∷ broken.1) (value ∷ others) broken.2 has) in
      let short : length value < 8 = subst (λ (v : List ℕ). length v < 8) same broken.3 in
      omega (arith, short, whole)

  module _ (times : List (List ℕ)) (value : List ℕ) (has : HasEnds entry times) (first : Some value ≡ slice_get times 0) where
    ends_with : (others : List (List ℕ)) × HasEnds entry (value ∷ others)
    ends_with =
        let split = some_first times value first in
        (split.0, subst (λ (ts : List (List ℕ)). HasEnds entry ts) split.1 has)

    pub revoked : length value < 8 → IsFirstBroken (end_rules entry now) errors.Revoked
    revoked short = inr (no_end_met value ends_with.0 ends_with.1, inl (value, ends_with.0, ends_with.1, short, refl))

    pub ended : (seconds : ℤ) → 8 ≤ length value → seconds ≡ seconds_of value → seconds <ℤ now
        → IsFirstBroken (end_rules entry now) (errors.Expired seconds now)
    ended seconds whole is less = inr (
      no_end_met value ends_with.0 ends_with.1,
      inr (
        whole_met value ends_with.0 ends_with.1 whole,
        inl (record {
          value = value;
          others = ends_with.0;
          ends = ends_with.1;
          whole = whole;
          passed = subst (λ (t : ℤ). t <ℤ now) is less;
          returned = ap (λ (t : ℤ). errors.Expired t now) is;
        }),
      ),
    )

    pub lasts : (seconds : ℤ) → 8 ≤ length value → seconds ≡ seconds_of value → now ≤ℤ seconds → EndsWell entry now
    lasts seconds whole is later other there =
        (value, ends_with.0, ends_once entry other (value ∷ ends_with.0) there ends_with.1, whole, subst (λ (t : ℤ). now ≤ℤ t) is later)

  -- ---- the beginning

  pub begins_without : ((times : List (List ℕ)) → HasBegins entry times → ⊥) → BeginsWell entry now
  begins_without none times has = absurd (none times has)

  pub beginning_missing : (times : List (List ℕ)) → HasBegins entry times → None ≡ slice_get times 0
      → IsFirstBroken (beginning_rules entry now) errors.MalformedEntry
  beginning_missing times has none = inl (times, has, subst LacksTime (sym (no_first times none)) tt, refl)

  whole_beginning : (value : List ℕ) (others : List (List ℕ)) → HasBegins entry (value ∷ others) → 8 ≤ length value → IsMet (HasNoBeginning entry)
  whole_beginning value others has whole = λ e broken.
      let short : length value < 8 = subst LacksTime (begins_once entry broken.0 (value ∷ others) broken.1 has) broken.2 in
      omega (arith, short, whole)

  module _ (times : List (List ℕ)) (value : List ℕ) (has : HasBegins entry times) (first : Some value ≡ slice_get times 0) where
    begins_with : (others : List (List ℕ)) × HasBegins entry (value ∷ others)
    begins_with =
        let split = some_first times value first in
        (split.0, subst (λ (ts : List (List ℕ)). HasBegins entry ts) split.1 has)

    pub short_beginning : length value < 8 → IsFirstBroken (beginning_rules entry now) errors.MalformedEntry
    short_beginning short = inl (value ∷ begins_with.0, begins_with.1, short, refl)

    pub too_early : (seconds : ℤ) → 8 ≤ length value → seconds ≡ seconds_of value → now <ℤ seconds → (IsForOthers entry → ⊥)
        → IsFirstBroken (beginning_rules entry now) (errors.NotYetValid seconds now)
    too_early seconds whole is early said = inr (
      whole_beginning value begins_with.0 begins_with.1 whole,
      inl (record {
        value = value;
        others = begins_with.0;
        begins = begins_with.1;
        whole = whole;
        early = subst (λ (t : ℤ). now <ℤ t) is early;
        applies = said;
        returned = ap (λ (t : ℤ). errors.NotYetValid t now) is;
      }),
    )

    pub begun : (seconds : ℤ) → 8 ≤ length value → seconds ≡ seconds_of value → (seconds ≤ℤ now) ⊎ IsForOthers entry → BeginsWell entry now
    begun seconds whole is (inl earlier) other there =
        (value, begins_with.0, begins_once entry other (value ∷ begins_with.0) there begins_with.1, whole, inl (subst (λ (t : ℤ). t ≤ℤ now) is earlier))
    begun seconds whole is (inr said) other there =
        (value, begins_with.0, begins_once entry other (value ∷ begins_with.0) there begins_with.1, whole, inr said)

-- ---- the extended key usages of the not-before time

module _ (entry : CTLEntry) where
  pub said_of_none : ((usages : List HeldPurposes) → HasUsages entry usages → ⊥) → IsTrue false ↔ IsForOthers entry
  said_of_none none = (λ on. absurd (false≢true on), λ said. absurd (none (said.0 ∷ said.1) said.2))

  no_usage : (a : HeldPurposes) (x : List HeldPurposes) → [] ≡ a ∷ x → ⊥
  no_usage a x e = absurd cc

  one_head_usage : (a b : HeldPurposes) (x y : List HeldPurposes) → a ∷ x ≡ b ∷ y → a ≡ b
  one_head_usage a b x y e = cc

  pub usage_missing : (usages : List HeldPurposes) → HasUsages entry usages → None ≡ slice_get usages 0 → IsTrue false ↔ IsForOthers entry
  usage_missing usages has none =
      let empty = subst (λ (us : List HeldPurposes). HasUsages entry us) (no_first usages none) has in
      (λ on. absurd (false≢true on), λ said. absurd (no_usage said.0 said.1 (usages_once entry [] (said.0 ∷ said.1) empty said.2)))

  flipped : (b : Bool) (P : Type 0) → (IsTrue b ↔ P) → IsTrue (not b) ↔ (P → ⊥)
  flipped true P test = (λ on p. false≢true on, λ fails. absurd (fails (test.0 refl)))
  flipped false P test = (λ on p. false≢true (test.1 p), λ fails. refl)

  pub said_of : (usages : List HeldPurposes) (usage : HeldPurposes) (b : Bool) → HasUsages entry usages → Some usage ≡ slice_get usages 0
      → (IsTrue b ↔ HoldsOfSome IsCodeSigning usage.purposes) → IsTrue (not b) ↔ IsForOthers entry
  said_of usages usage b has first test =
      let split = some_first usages usage first in
      let there = subst (λ (us : List HeldPurposes). HasUsages entry us) split.1 has in
      let turned = flipped b (HoldsOfSome IsCodeSigning usage.purposes) test in (
        λ on. (usage, split.0, there, turned.0 on),
        λ said. turned.1 (subst (λ (u : HeldPurposes). HoldsOfSome IsCodeSigning u.purposes → ⊥)
            (one_head_usage said.0 usage said.1 split.0 (usages_once entry (said.0 ∷ said.1) (usage ∷ split.0) said.2 there)) said.3),
      )

-- ---- a name

module _ (entries : List CTLEntry) (name : List ℕ) (now : ℤ) where
  entry_met : (entry : CTLEntry) → IsEntryOf entries name entry → IsMet (HasNoEntry entries name)
  entry_met entry first = λ e broken. first_or_none (HasDigest (md5 name)) entries entry first broken.0

  pub not_listed : HoldsOfNone (HasDigest (md5 name)) entries → IsFirstBroken (listing_rules entries name now) errors.NotListed
  not_listed none = inl (none, refl)

  pub ends_badly : (entry : CTLEntry) (e : ListingError) → IsEntryOf entries name entry → IsFirstBroken (end_rules entry now) e
      → IsFirstBroken (listing_rules entries name now) e
  ends_badly entry e first broken = inr (entry_met entry first, inl (entry, first, broken_before (end_rules entry now) (beginning_rules entry now) e broken))

  pub begins_or_not : {U : Type 0} (entry : CTLEntry) (r : Result U ListingError) → IsEntryOf entries name entry → EndsWell entry now
      → MatchResult r (λ _. BeginsWell entry now) (IsFirstBroken (beginning_rules entry now))
      → MatchResult r (λ _. IsListed entries name now) (IsFirstBroken (listing_rules entries name now))
  begins_or_not entry (Ok v) first lasts begins = (entry, first, record { ends = lasts; begins = begins })
  begins_or_not entry (Err e) first lasts broken =
      inr (entry_met entry first, inl (entry, first, broken_behind (end_rules entry now) (beginning_rules entry now) e (lasting_met entry now lasts) broken))
