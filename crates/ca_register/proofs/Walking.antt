-- Walking from an entry to its root, and what is best of the entries so far.
use Rattle.std.proofs.Common.{◌≡◌, ◌<◌, ◌≤◌, ◌⊎◌, ℕ, zero, suc, ◌+◌, List, [], ◌∷◌, length, Some, inl, inr, refl, sym, ap, subst, ◌∙◌, arith}
use Rattle.std.specs.List.{slice_get}
use Rattle.std.proofs.lemmas.Bool.{cases_lt}
use Rattle.asn1_types.specs.declared.generalized_time.GeneralizedTime.{GeneralizedTime}
use Rattle.x509_core.specs.History.{AreAncestors, HasIssuer, History, IsOrdered, IsRootStep}
use Rattle.x509_core.specs.Window.{IsEarlier}
use Rattle.x509_core.proofs.Histories.{issuer_once, line_of, root_is_not_issued}
use Rattle.x509_core.proofs.Validity.{same_some}
use Rattle.ca_register.specs.Entries.{HasEntry, history_of}
use Rattle.ca_register.specs.Issuing.{IsFirstTooShort, IsTooShort, NoneTooShort}
use Rattle.ca_register.specs.Usable.{IsAmong, IsUsable}
use Rattle.ca_register.specs.declared.entry.Entry.{Entry}
use Rattle.ca_register.proofs.Dates.{after_earlier, before_later, not_before_itself}
use Rattle.ca_register.proofs.Lines.{nothing_at}
use Rattle.ca_register.proofs.Records.{as_many, issued_at}

module _ (history : History) where
  pub next_on_line : (index : ℕ) (ancestors : List ℕ) (number at issuer : ℕ) → AreAncestors history index ancestors
      → slice_get (index ∷ ancestors) number ≡ Some at → HasIssuer history at issuer
      → slice_get (index ∷ ancestors) (suc number) ≡ Some issuer
  next_on_line index [] zero at issuer are found has =
      absurd (root_is_not_issued history at issuer (subst (IsRootStep history) (same_some index at found) are.1) has)
  next_on_line index [] (suc number) at issuer are found has = absurd (nothing_at number at found)
  next_on_line index (first ∷ ancestors) zero at issuer are found has =
      ap Some (issuer_once history at first issuer (subst (λ (i : ℕ). HasIssuer history i first) (same_some index at found) are.0.0) has)
  next_on_line index (first ∷ ancestors) (suc number) at issuer are found has = next_on_line first ancestors number at issuer (are.0.1, are.1) found has

  pub last_on_line : (index : ℕ) (ancestors : List ℕ) (number at other place : ℕ) → AreAncestors history index ancestors
      → slice_get (index ∷ ancestors) number ≡ Some at → IsRootStep history at
      → slice_get (index ∷ ancestors) other ≡ Some place → other ≤ number
  last_on_line index [] number at zero place are found root there = omega arith
  last_on_line index [] number at (suc other) place are found root there = absurd (nothing_at other place there)
  last_on_line index (first ∷ ancestors) zero at other place are found root there =
      absurd (root_is_not_issued history at first root (subst (λ (i : ℕ). HasIssuer history i first) (same_some index at found) are.0.0))
  last_on_line index (first ∷ ancestors) (suc number) at zero place are found root there = omega arith
  last_on_line index (first ∷ ancestors) (suc number) at (suc other) place are found root there =
      omega (arith, last_on_line first ancestors number at other place (are.0.1, are.1) found root there)

-- ---- depth

module _ (entries : List Entry) (issuer : ℕ) where
  -- on each line the walk is at this number, and no path length so far is too short
  abbrev pub IsDeepSoFar : (number at : ℕ) → Type 0
  IsDeepSoFar number at = (ancestors : List ℕ) → AreAncestors (history_of entries) issuer ancestors
      → (slice_get (issuer ∷ ancestors) number ≡ Some at) × ((nearer : ℕ) → nearer ≤ number → IsTooShort entries (issuer ∷ ancestors) nearer → ⊥)

  abbrev pub IsShortAt : (above number : ℕ) → Type 0
  IsShortAt above number = (entry : Entry) × HasEntry entries above entry × ((limit : ℕ) × (entry.grant.path_length ≡ Some limit) × (limit < number))

  module _ (number at above : ℕ) (so_far : IsDeepSoFar number at) (entry : Entry) (has : HasEntry entries at entry) (issued : entry.issuer ≡ Some above) where
    found_above : (ancestors : List ℕ) → AreAncestors (history_of entries) issuer ancestors → slice_get (issuer ∷ ancestors) (suc number) ≡ Some above
    found_above ancestors are =
        next_on_line (history_of entries) issuer ancestors number at above are (so_far ancestors are).0 (issued_at entries at above entry has issued)

    pub deep_more : (IsShortAt above (number + 1) → ⊥) → IsDeepSoFar (number + 1) above
    deep_more enough ancestors are =
        let next : suc number ≡ number + 1 = omega arith in
        (subst (λ (n : ℕ). slice_get (issuer ∷ ancestors) n ≡ Some above) next (found_above ancestors are), none)
      where
        here : (nearer : ℕ) → nearer ≡ suc number → IsTooShort entries (issuer ∷ ancestors) nearer → ⊥
        here nearer same short =
            let place : short.place ≡ above =
            same_some short.place above (sym short.at ∙ ap (slice_get (issuer ∷ ancestors)) same ∙ found_above ancestors are) in
            enough
            (short.entry, subst (λ (p : ℕ). HasEntry entries p short.entry) place short.has, (short.limit, short.limited, omega (arith, short.short, same)))

        none : (nearer : ℕ) → nearer ≤ number + 1 → IsTooShort entries (issuer ∷ ancestors) nearer → ⊥
        none nearer few short = by (cases_lt number nearer)
          where
            by : (number < nearer) ⊎ (nearer ≤ number) → ⊥
            by (inl last) = here nearer (omega (arith, last, few)) short
            by (inr before) = (so_far ancestors are).1 nearer before short

    pub too_short : IsOrdered (history_of entries) → issuer < length entries → IsShortAt above (number + 1) → IsFirstTooShort entries issuer (number + 1)
    too_short ordered within short =
        let line = line_of (history_of entries) issuer ordered (omega (arith, within, as_many entries)) in
        let next : suc number ≡ number + 1 = omega arith in
        record {
          line = issuer ∷ line.0;
          above = record { ancestors = line.0; is = refl; are = line.1 };
          short = record {
            place = above;
            at = subst (λ (n : ℕ). slice_get (issuer ∷ line.0) n ≡ Some above) next (found_above line.0 line.1);
            entry = short.0;
            has = short.1;
            limit = short.2.0;
            limited = short.2.1;
            short = short.2.2;
          };
          first = λ nearer before. (so_far line.0 line.1).1 nearer (omega (arith, before));
        }

  pub deep_to_root : (number at : ℕ) → IsDeepSoFar number at → IsRootStep (history_of entries) at → NoneTooShort entries issuer
  deep_to_root number at so_far root line other above short =
      let at_line = so_far above.ancestors above.are in
      let same : (issuer ∷ above.ancestors) ≡ line = sym above.is in
      let there : slice_get (issuer ∷ above.ancestors) other ≡ Some short.place = ap (λ (l : List ℕ). slice_get l other) same ∙ short.at in
      at_line.1 other (last_on_line (history_of entries) issuer above.ancestors number at other short.place above.are at_line.0 root there)
      (subst (λ (l : List ℕ). IsTooShort entries l other) (sym same) short)

-- ---- the best of the entries so far

-- One of the first entries has this moment, and none of them beats it.
pub record IsBestSoFar (Beats : GeneralizedTime → GeneralizedTime → Type 0) (moment_of : Entry → GeneralizedTime) (entries : List Entry) (places : List ℕ)
    (number : ℕ) (moment : GeneralizedTime) : Type 0 where
  pub best : Entry
  pub among : IsAmong entries places best
  pub is : moment_of best ≡ moment
  pub none : (index place : ℕ) (entry : Entry) → index ≤ number → slice_get places index ≡ Some place → HasEntry entries place entry
      → Beats moment (moment_of entry) → ⊥

module _ (Beats : GeneralizedTime → GeneralizedTime → Type 0) (moment_of : Entry → GeneralizedTime) (over : (better moment other : GeneralizedTime)
    → (Beats better moment → ⊥) → (Beats moment other → ⊥) → Beats better other → ⊥)
    (never : (moment : GeneralizedTime) → Beats moment moment → ⊥) (entries : List Entry) where
  abbrev Best : List ℕ → ℕ → GeneralizedTime → Type 0
  Best = IsBestSoFar Beats moment_of entries

  same_entry : (place : ℕ) (a b : Entry) → HasEntry entries place a → HasEntry entries place b → a ≡ b
  same_entry place a b p q = same_some a b (sym p ∙ q)

  pub best_first : (place : ℕ) (ancestors : List ℕ) (entry : Entry) → HasEntry entries place entry → Best (place ∷ ancestors) 0 (moment_of entry)
  best_first place ancestors entry has = record {
    best = entry;
    among = record { index = 0; place = place; at = refl; has = has };
    is = refl;
    none = λ index p other few at there. first_alone index p other (omega (arith, few)) at there;
  }
    where
      first_alone : (index p : ℕ) (other : Entry) → index ≡ 0 → slice_get (place ∷ ancestors) index ≡ Some p → HasEntry entries p other
          → Beats (moment_of entry) (moment_of other) → ⊥
      first_alone index p other first at there beats =
          let same : place ≡ p = same_some place p (ap (slice_get (place ∷ ancestors)) (sym first) ∙ at) in
          let one = same_entry place entry other has (subst (λ (i : ℕ). HasEntry entries i other) (sym same) there) in
          never (moment_of entry) (subst (λ (e : Entry). Beats (moment_of entry) (moment_of e)) (sym one) beats)

  pub best_more : (places : List ℕ) (number above : ℕ) (moment better : GeneralizedTime) (entry : Entry) → Best places number moment
      → slice_get places (suc number) ≡ Some above → HasEntry entries above entry
      → (better ≡ moment) ⊎ (better ≡ moment_of entry) → (Beats better moment → ⊥) × (Beats better (moment_of entry) → ⊥) → Best places (suc number) better
  best_more places number above moment better entry so_far at has either beaten = by either
    where
      unbeaten : (index place : ℕ) (other : Entry) → index ≤ suc number → slice_get places index ≡ Some place → HasEntry entries place other
          → Beats better (moment_of other) → ⊥
      unbeaten index place other few there held = elim (cases_lt number index) [
        | inl last ↦
            let here : suc number ≡ index = omega (arith, last, few) in
            let same : above ≡ place = same_some above place (sym at ∙ ap (slice_get places) here ∙ there) in
            let one = same_entry above entry other has (subst (λ (i : ℕ). HasEntry entries i other) (sym same) held) in
            subst (λ (e : Entry). Beats better (moment_of e) → ⊥) one beaten.1
        | inr before ↦ over better moment (moment_of other) beaten.0 (so_far.none index place other before there held)
      ]

      by : (better ≡ moment) ⊎ (better ≡ moment_of entry) → Best places (suc number) better
      by (inl old) = record { best = so_far.best; among = so_far.among; is = so_far.is ∙ sym old; none = unbeaten }
      by (inr new) = record { best = entry; among = record { index = suc number; place = above; at = at; has = has }; is = sym new; none = unbeaten }

-- ---- the ends

abbrev Later : GeneralizedTime → GeneralizedTime → Type 0
Later a b = IsEarlier a b

abbrev Sooner : GeneralizedTime → GeneralizedTime → Type 0
Sooner a b = IsEarlier b a

abbrev from_of : Entry → GeneralizedTime
from_of entry = entry.grant.from

abbrev to_of : Entry → GeneralizedTime
to_of entry = entry.grant.to

later_over : (better moment other : GeneralizedTime) → (Later better moment → ⊥) → (Later moment other → ⊥) → Later better other → ⊥
later_over better moment other p q r = p (before_later better other moment r q)

sooner_over : (better moment other : GeneralizedTime) → (Sooner better moment → ⊥) → (Sooner moment other → ⊥) → Sooner better other → ⊥
sooner_over better moment other p q r = p (after_earlier better other moment r q)

module _ (entries : List Entry) (place : ℕ) where
  -- on each line the walk is at some number, and both ends are the best so far
  abbrev pub IsUsableSoFar : (at : ℕ) (from to : GeneralizedTime) → Type 0
  IsUsableSoFar at from to = (ancestors : List ℕ) → AreAncestors (history_of entries) place ancestors
      → (number : ℕ) × (slice_get (place ∷ ancestors) number ≡ Some at)
      × IsBestSoFar Later from_of entries (place ∷ ancestors) number from × IsBestSoFar Sooner to_of entries (place ∷ ancestors) number to

  pub usable_itself : (entry : Entry) → HasEntry entries place entry → IsUsableSoFar place entry.grant.from entry.grant.to
  usable_itself entry has ancestors are = (
    0,
    refl,
    best_first Later from_of later_over not_before_itself entries place ancestors entry has,
    best_first Sooner to_of sooner_over not_before_itself entries place ancestors entry has,
  )

  module _ (at above : ℕ) (from to : GeneralizedTime) (so_far : IsUsableSoFar at from to) (entry : Entry) (has : HasEntry entries at entry)
      (issued : entry.issuer ≡ Some above) (over : Entry) (has_over : HasEntry entries above over)
      (from_now to_now : GeneralizedTime) (from_either : (from_now ≡ from) ⊎ (from_now ≡ over.grant.from))
      (latest : (IsEarlier from_now from → ⊥) × (IsEarlier from_now over.grant.from → ⊥))
      (to_either : (to_now ≡ to) ⊎ (to_now ≡ over.grant.to)) (earliest : (IsEarlier to to_now → ⊥) × (IsEarlier over.grant.to to_now → ⊥)) where
    pub usable_more : IsUsableSoFar above from_now to_now
    usable_more ancestors are =
        let now = so_far ancestors are in
        let next = next_on_line (history_of entries) place ancestors now.0 at above are now.1 (issued_at entries at above entry has issued) in (
          suc now.0,
          next,
          best_more Later from_of later_over not_before_itself entries (place ∷ ancestors)
              now.0 above from from_now over now.2 next has_over from_either latest,
          best_more Sooner to_of sooner_over not_before_itself entries (place ∷ ancestors) now.0 above to to_now over now.3 next has_over to_either earliest,
        )

  module _ (at : ℕ) (from to : GeneralizedTime) (so_far : IsUsableSoFar at from to) (root : IsRootStep (history_of entries) at)
      (ordered : IsOrdered (history_of entries)) (within : place < length entries) where
    abbrev ancestors : List ℕ
    ancestors = (line_of (history_of entries) place ordered (omega (arith, within, as_many entries))).0

    are : AreAncestors (history_of entries) place ancestors
    are = (line_of (history_of entries) place ordered (omega (arith, within, as_many entries))).1

    reached : (among : ℕ) (other : ℕ) → slice_get (place ∷ ancestors) among ≡ Some other → among ≤ (so_far ancestors are).0
    reached among other there =
        last_on_line (history_of entries) place ancestors (so_far ancestors are).0 at among other are (so_far ancestors are).1 root there

    pub usable_whole : IsUsable entries place from to
    usable_whole =
        let now = so_far ancestors are in
        record {
          ancestors = ancestors;
          are = are;
          begins = record {
            latest = now.2.best;
            is = now.2.among;
            from = now.2.is;
            none_later = λ entry among. now.2.none among.index among.place entry (reached among.index among.place among.at) among.at among.has;
          };
          ends = record {
            earliest = now.3.best;
            is = now.3.among;
            to = now.3.is;
            none_earlier = λ entry among. now.3.none among.index among.place entry (reached among.index among.place among.at) among.at among.has;
          };
        }
