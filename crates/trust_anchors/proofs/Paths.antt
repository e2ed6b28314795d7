-- Paths to an anchor: the first one of each length, and what they say of all.
use Rattle.std.proofs.Common.{◌≡◌, ◌⊎◌, ℕ, suc, ◌<◌, ◌≤◌, List, [], ◌∷◌, length, Option, Some, None, inl, inr, refl, sym, subst, ◌∙◌, arith}
use Rattle.std.specs.Prelude.{MatchOption}
use Rattle.std.proofs.lemmas.Bool.{cases_lt, false≢true}
use Rattle.asn1_types.specs.declared.generalized_time.GeneralizedTime.{GeneralizedTime}
use Rattle.key_core.specs.Verifying.{Judge}
use Rattle.x509_core.specs.Chain.{IsAccepted, last_of}
use Rattle.x509_core.specs.OwnedCertificate.{KeptCertificate}
use Rattle.x509_core.specs.Window.{IsWithinWindow}
use Rattle.x509_core.specs.declared.window.DateCheck.TheVariants as dates
use Rattle.trust_anchors.specs.AnchoredPath.{HasNoPath, IsAnchoredPath, checks_on, parents_of, window_on}
use Rattle.trust_anchors.specs.FirstPath.{IsBefore, IsFirstPath, IsNotAfter}
use Rattle.trust_anchors.specs.Inside.Trails.{EndsAtAnchor, HasAnchor, HasNoneShorter, IsAnchorAt, IsFirstSoFar}
use Rattle.trust_anchors.specs.Inside.Trails.{IsFirstWith, IsFound, IsLayer, IsUpTo, Sought, end_of}
use Rattle.trust_anchors.specs.declared.anchor.Anchor.{Anchor}
use Rattle.trust_anchors.specs.declared.anchor.Purpose.{Purpose}
use Rattle.trust_anchors.specs.declared.path.AnchoredPath.{AnchoredPath}
use Rattle.x509_core.proofs.Chains.{linked_front}
use Rattle.trust_anchors.proofs.Chains.{as_many, end_at}
use Rattle.trust_anchors.proofs.Orders.{not_before_itself, not_both_before, up_to_cases, up_to_trans}
use Rattle.trust_anchors.proofs.Trails.{Linking, ends_linked}

module _ (s : Sought) where
  one_child : (indices : List ℕ) (a b : KeptCertificate) → end_of s indices ≡ Some a → end_of s indices ≡ Some b → a ≡ b
  one_child indices a b p q =
      let some : Some a ≡ Some b = sym p ∙ q in
      cc

  -- an anchor of one trail is one of each that has its length and its end
  anchor_alike : (a b : List ℕ) → length b ≡ length a → end_of s b ≡ end_of s a → HasAnchor s a → HasAnchor s b
  anchor_alike a b long end has =
      (has.0, has.1, end ∙ has.2, subst (λ (n : ℕ). IsAnchorAt s n has.0 has.1) (sym long) has.3)

  path_anchor : (path : AnchoredPath) → EndsAtAnchor s path → HasAnchor s path.pool
  path_anchor path ends = (ends.child, path.anchor, ends.end, ends.last)

  pub first_with : (number : ℕ) (layer : List (List ℕ)) (first : Option AnchoredPath) → IsLayer s number layer → IsFirstSoFar s layer first
      → IsFirstWith s number first
  first_with number layer None is so_far = λ path ends long. (
      let good = is.complete path.pool ends.trail long in
      let long_is : length good.0 ≡ length path.pool = (is.sound good.0 good.1).1 ∙ sym long in
      so_far.least good.0 good.1 (anchor_alike path.pool good.0 long_is good.2 (path_anchor path ends)))
  first_with number layer (Some first) is so_far =
      let low = is.sound first.pool so_far.least.0 in
      let own = so_far.anchor in
      (record { trail = low.0; child = own.0; end = own.1; last = own.2.0 }, low.1, λ other ends long. not_after other ends long)
    where
      cases : (other : AnchoredPath) → EndsAtAnchor s other → IsBefore first.pool other.pool ⊎ (first.pool ≡ other.pool) → IsNotAfter first other
      cases other ends (inl before) = inl before
      cases other ends (inr same) =
          let own = so_far.anchor in
          let child : own.0 ≡ ends.child =
          one_child other.pool own.0 ends.child (subst (λ (indices : List ℕ). end_of s indices ≡ Some own.0) same own.1) ends.end in
          let at : IsAnchorAt s (length first.pool) own.0 other.anchor =
          subst (λ (c : KeptCertificate). IsAnchorAt s (length first.pool) c other.anchor) (sym child)
          (subst (λ (indices : List ℕ). IsAnchorAt s (length indices) ends.child other.anchor) (sym same) ends.last) in
          inr (same, least (cases_lt other.anchor first.anchor) at)
        where
          least : (other.anchor < first.anchor) ⊎ (first.anchor ≤ other.anchor) → IsAnchorAt s (length first.pool) so_far.anchor.0 other.anchor
              → first.anchor ≤ other.anchor
          least (inl less) at = absurd (so_far.anchor.2.1 other.anchor less at)
          least (inr up) at = up

      not_after : (other : AnchoredPath) → EndsAtAnchor s other → length other.pool ≡ number → IsNotAfter first other
      not_after other ends long =
          let good = is.complete other.pool ends.trail long in
          let long_is : length good.0 ≡ length other.pool = (is.sound good.0 good.1).1 ∙ sym long in
          let up : IsUpTo first.pool good.0 = so_far.least.2 good.0 good.1 (anchor_alike other.pool good.0 long_is good.2 (path_anchor other ends)) in
          cases other ends (up_to_cases first.pool other.pool (up_to_trans first.pool good.0 other.pool up good.3))

  pub none_yet : HasNoneShorter s 0
  none_yet path ends less = absurd (omega (arith, less))

  pub none_longer : (number next : ℕ) → next ≡ suc number → HasNoneShorter s number → IsFirstWith s number None → HasNoneShorter s next
  none_longer number next e none none_with path ends less = by (cases_lt (length path.pool) number)
    where
      by : (length path.pool < number) ⊎ (number ≤ length path.pool) → ⊥
      by (inl shorter) = none path ends shorter
      by (inr as_long) = none_with path ends (omega (arith, as_long, less, e))

  -- the search found none of this length either
  pub none_found : (number next : ℕ) (found : Option AnchoredPath) → next ≡ suc number → ((path : AnchoredPath) → found ≡ Some path → ⊥)
      → HasNoneShorter s number → IsFirstWith s number found → HasNoneShorter s next
  none_found number next None e isnt none first = none_longer number next e none first
  none_found number next (Some path) e isnt none first = absurd (isnt path refl)

  -- the first path of a length, if no path is shorter
  pub found_with : (number : ℕ) (path : AnchoredPath) → number ≤ 15 → HasNoneShorter s number → IsFirstWith s number (Some path) → IsFound s (Some path)
  found_with number path few none first =
      (subst (HasNoneShorter s) (sym first.1) none, omega (arith, few, first.1), subst (λ (n : ℕ). IsFirstWith s n (Some path)) (sym first.1) first)

  pub found_last : (found : Option AnchoredPath) → HasNoneShorter s 15 → IsFirstWith s 15 found → IsFound s found
  found_last None none with = none_longer 15 16 refl none with
  found_last (Some path) none first = found_with 15 path (omega arith) none first

-- ---- anchored paths

dated_is : {date : GeneralizedTime} → dates.Exact date ≡ dates.Absent → ⊥
dated_is e = absurd cc

module _ (judge : Judge) (date : GeneralizedTime) (checked : KeptCertificate) (pool : List KeptCertificate) (anchors : List Anchor) (purpose : Purpose) where
  abbrev pub searched : Sought
  searched = record { judge = judge; window = window_on date; checked = checked; pool = pool; anchors = anchors; purpose = purpose }

  abbrev IsOne : AnchoredPath → Type 0
  IsOne = IsAnchoredPath judge date checked pool anchors purpose

  anchored_ends : (path : AnchoredPath) → IsOne path → EndsAtAnchor searched path
  anchored_ends path is =
      let long : length path.pool ≡ length is.between = as_many pool path.pool is.between is.are in
      let link : Linking searched (length is.between) is.anchor.cert (last_of checked is.between) = is.linked is.between [] is.anchor.cert refl in
      record {
        trail = record { parents = is.between; are = is.are; linked = linked_front (Linking searched) checked is.between (is.anchor.cert ∷ []) is.linked };
        child = last_of checked is.between;
        end = end_at pool checked path.pool is.between is.are;
        last = (is.anchor, is.last, is.serves, subst (λ (n : ℕ). Linking searched n is.anchor.cert (last_of checked is.between)) (sym long) link);
      }

  ends_anchored : (path : AnchoredPath) → IsWithinWindow (window_on date) checked.elements → length path.pool ≤ 15 → EndsAtAnchor searched path → IsOne path
  ends_anchored path valid few ends = record {
    few = few;
    between = ends.trail.parents;
    are = ends.trail.are;
    anchor = ends.last.0;
    last = ends.last.1;
    serves = ends.last.2;
    valid = valid;
    linked = ends_linked searched path.pool ends.trail ends.last.0.cert ends.child ends.end ends.last.3;
  }

  -- what the search found, if the certificate is valid
  pub search_answers : (found : Option AnchoredPath) → IsWithinWindow (window_on date) checked.elements → IsFound searched found
      → MatchOption found (HasNoPath IsOne) (IsFirstPath IsOne)
  search_answers None valid none = λ path is. none path (anchored_ends path is) (omega (arith, is.few))
  search_answers (Some path) valid found = record {
    is = ends_anchored path valid found.1 found.2.0;
    shortest = λ other is. by other is (cases_lt (length other.pool) (length path.pool));
    first = λ other is long. found.2.2 other (anchored_ends other is) long;
  }
    where
      by : (other : AnchoredPath) → IsOne other → (length other.pool < length path.pool) ⊎ (length path.pool ≤ length other.pool)
          → length path.pool ≤ length other.pool
      by other is (inl less) = absurd (found.0 other (anchored_ends other is) less)
      by other is (inr up) = up

  -- ---- laws

  pub anchored_accepted : (path : AnchoredPath) (found : IsOne path) → IsAccepted judge (checks_on date) checked (Some (parents_of found))
  anchored_accepted path found = record {
    dated = λ asked absent. absurd (dated_is absent);
    valid = found.valid;
    chained = λ asked. record { parents = parents_of found; is = refl; linked = found.linked; rooted = λ root. absurd (false≢true root) };
  }

  same_path : (a b : AnchoredPath) → a.pool ≡ b.pool → a.anchor ≡ b.anchor → a ≡ b
  same_path a b pool anchor i = record { pool = pool i; anchor = anchor i }

  pub first_once : (a b : AnchoredPath) → IsFirstPath IsOne a → IsFirstPath IsOne b → a ≡ b
  first_once a b p q = by (p.first b q.is (sym long)) (q.first a p.is long)
    where
      long : length a.pool ≡ length b.pool
      long = omega (arith, p.shortest b q.is, q.shortest a p.is)

      by : IsNotAfter a b → IsNotAfter b a → a ≡ b
      by (inl before) (inl after) = absurd (not_both_before a.pool b.pool before after)
      by (inl before) (inr (same, up)) = absurd (not_before_itself a.pool (subst (IsBefore a.pool) same before))
      by (inr (same, up)) (inl after) = absurd (not_before_itself b.pool (subst (IsBefore b.pool) same after))
      by (inr (same, up)) (inr (back, down)) = same_path a b same (omega (arith, up, down))
