-- Trails that grow by one index, and their layers.
use Rattle.std.proofs.Common.{◌≡◌, ◌⊎◌, ℕ, suc, ◌+◌, ◌<◌, ◌≤◌, List, [], ◌∷◌, ◌++◌, length, Option, Some}
use Rattle.std.proofs.Common.{None, IfSome, inl, inr, refl, sym, ap, subst, ◌∙◌, arith, length-append}
use Rattle.std.specs.Prelude.{slice_get, Contains}
use Rattle.std.proofs.lemmas.Bool.{cases_lt}
use Rattle.std.proofs.lemmas.List.Elements.{Contains-append_left, Contains-push, Contains-push_cases}
use Rattle.std.proofs.lemmas.Option.{slice_get_within}
use Rattle.x509_core.specs.Chain.{IsLinkedChain, last_of}
use Rattle.x509_core.specs.OwnedCertificate.{KeptCertificate}
use Rattle.x509_core.specs.Link.{IsLink}
use Rattle.trust_anchors.specs.FirstPath.{IsBefore}
use Rattle.trust_anchors.specs.Inside.Trails.{Continues, HasAsGood, IsFirstOf, IsLayer, IsLayerUpTo, IsTrail, IsUpTo, Sought, end_of}
use Rattle.x509_core.proofs.Chains.{linked_front, linked_more, linked_none}
use Rattle.trust_anchors.proofs.Chains.{as_many, at_more, end_at, end_more, split_at}
use Rattle.trust_anchors.proofs.Orders.{up_to_before, up_to_itself, up_to_more, up_to_trans, up_to_unless_before}

-- ---- of some trails the first for which a rule holds

module _ (holds : List ℕ → Type 0) (trails : List (List ℕ)) (trail : List ℕ) where
  -- the next trail is before the first one so far, and the rule holds for it
  pub first_taken : (first : Option (List ℕ)) → IfSome first (IsBefore trail) → holds trail → IsFirstOf holds trails first
      → IsFirstOf holds (trails ++ trail ∷ []) (Some trail)
  first_taken None before held none = (Contains-push trails trail, held, λ other has fits. by other fits (Contains-push_cases trails trail other has))
    where
      by : (other : List ℕ) → holds other → Contains trails other ⊎ (trail ≡ other) → IsUpTo trail other
      by other fits (inl earlier) = absurd (none other earlier fits)
      by other fits (inr same) = subst (IsUpTo trail) same (up_to_itself trail)
  first_taken (Some first) before held least = (Contains-push trails trail, held, λ other has fits. by other fits (Contains-push_cases trails trail other has))
    where
      by : (other : List ℕ) → holds other → Contains trails other ⊎ (trail ≡ other) → IsUpTo trail other
      by other fits (inl earlier) = up_to_trans trail first other (up_to_before trail first before) (least.2 other earlier fits)
      by other fits (inr same) = subst (IsUpTo trail) same (up_to_itself trail)

  -- the rule doesn't hold for the next trail
  pub first_failed : (first : Option (List ℕ)) → (holds trail → ⊥) → IsFirstOf holds trails first → IsFirstOf holds (trails ++ trail ∷ []) first
  first_failed None fails none = λ other has fits. by other fits (Contains-push_cases trails trail other has)
    where
      by : (other : List ℕ) → holds other → Contains trails other ⊎ (trail ≡ other) → ⊥
      by other fits (inl earlier) = none other earlier fits
      by other fits (inr same) = fails (subst holds (sym same) fits)
  first_failed (Some first) fails least =
      (Contains-append_left trails (trail ∷ []) first least.0, least.1, λ other has fits. by other fits (Contains-push_cases trails trail other has))
    where
      by : (other : List ℕ) → holds other → Contains trails other ⊎ (trail ≡ other) → IsUpTo first other
      by other fits (inl earlier) = least.2 other earlier fits
      by other fits (inr same) = absurd (fails (subst holds (sym same) fits))

  -- the next trail isn't before the first one so far
  pub first_kept : (first : Option (List ℕ)) → (IfSome first (IsBefore trail) → ⊥) → IsFirstOf holds trails first → IsFirstOf holds (trails ++ trail ∷ []) first
  first_kept None after none = absurd (after tt)
  first_kept (Some first) after least =
      (Contains-append_left trails (trail ∷ []) first least.0, least.1, λ other has fits. by other fits (Contains-push_cases trails trail other has))
    where
      by : (other : List ℕ) → holds other → Contains trails other ⊎ (trail ≡ other) → IsUpTo first other
      by other fits (inl earlier) = least.2 other earlier fits
      by other fits (inr same) = subst (IsUpTo first) same (up_to_unless_before first trail after)

-- ---- trails

module _ (s : Sought) where
  abbrev pub Linking : ℕ → KeptCertificate → KeptCertificate → Type 0
  Linking number parent child = IsLink s.judge s.window number parent.elements child.elements

  pub trail_none : IsTrail s []
  trail_none = record { parents = []; are = refl; linked = linked_none Linking s.checked }

  -- each trail has an end
  pub trail_end : (indices : List ℕ) (trail : IsTrail s indices) → end_of s indices ≡ Some (last_of s.checked trail.parents)
  trail_end indices trail = end_at s.pool s.checked indices trail.parents trail.are

  -- a certificate that continues a trail, or an anchor, may have issued the last one of the chain
  pub ends_linked : (indices : List ℕ) (trail : IsTrail s indices) (parent child : KeptCertificate) → end_of s indices ≡ Some child
      → Linking (length indices) parent child
      → IsLinkedChain s.judge s.window s.checked (trail.parents ++ parent ∷ [])
  ends_linked indices trail parent child end link =
      let ends : Some child ≡ Some (last_of s.checked trail.parents) = sym end ∙ trail_end indices trail in
      let same : child ≡ last_of s.checked trail.parents = cc in
      let long : length indices ≡ length trail.parents = as_many s.pool indices trail.parents trail.are in
      linked_more Linking s.checked trail.parents parent trail.linked
      (subst (λ (n : ℕ). Linking n parent (last_of s.checked trail.parents)) long
      (subst (λ (c : KeptCertificate). Linking (length indices) parent c) same link))

  pub trail_more : (indices : List ℕ) (index : ℕ) (parent : KeptCertificate) → IsTrail s indices → slice_get s.pool index ≡ Some parent
      → Continues s parent indices
      → IsTrail s (indices ++ index ∷ [])
  trail_more indices index parent trail at continues = record {
    parents = trail.parents ++ parent ∷ [];
    are = at_more s.pool indices trail.parents index parent trail.are at;
    linked = ends_linked indices trail parent continues.0 continues.1 continues.2;
  }

  -- a trail without its last index, and what continues it
  pub record Shorter (indices : List ℕ) (index : ℕ) : Type 0 where
    pub trail : IsTrail s indices
    pub parent : KeptCertificate
    pub at : slice_get s.pool index ≡ Some parent
    pub continues : Continues s parent indices

  pub trail_less : (indices : List ℕ) (index : ℕ) → IsTrail s (indices ++ index ∷ []) → Shorter indices index
  trail_less indices index trail =
      let split = split_at s.pool indices index trail.parents trail.are in
      let linked : IsLinkedChain s.judge s.window s.checked (split.before ++ split.last ∷ []) =
      subst (IsLinkedChain s.judge s.window s.checked) split.are trail.linked in
      let link : Linking (length split.before) split.last (last_of s.checked split.before) = linked split.before [] split.last refl in
      let long : length split.before ≡ length indices = sym (as_many s.pool indices split.before split.at) in
      record {
        trail = record { parents = split.before; are = split.at; linked = linked_front Linking s.checked split.before (split.last ∷ []) linked };
        parent = split.last;
        at = split.is;
        continues = (
          last_of s.checked split.before,
          end_at s.pool s.checked indices split.before split.at,
          subst (λ (n : ℕ). Linking n split.last (last_of s.checked split.before)) long link,
        );
      }

  -- what continues a trail continues each one of its length with its end
  pub continues_alike : (parent : KeptCertificate) (a b : List ℕ) → length b ≡ length a → end_of s b ≡ end_of s a → Continues s parent a → Continues s parent b
  continues_alike parent a b long end continues =
      (continues.0, end ∙ continues.1, subst (λ (n : ℕ). Linking n parent continues.0) (sym long) continues.2)

  -- ---- layers

  one_member : (trail : List ℕ) → Contains ([] ∷ []) trail → [] ≡ trail
  one_member trail has = by (Contains-push_cases [] [] trail has)
    where
      by : Contains [] trail ⊎ ([] ≡ trail) → [] ≡ trail
      by (inl none) = absurd (omega (arith, none.1))
      by (inr same) = same

  pub layer_none : IsLayer s 0 ([] ∷ [])
  layer_none = record {
    sound = λ trail has. subst (λ (t : List ℕ). IsTrail s t × (length t ≡ 0)) (one_member trail has) (trail_none, refl);
    complete = λ indices trail short. by indices short;
    few = omega arith;
  }
    where
      by : (indices : List ℕ) → length indices ≡ 0 → HasAsGood s ([] ∷ []) indices
      by [] short = ([], Contains-push [] [], refl, up_to_itself [])
      by (i ∷ indices) short = absurd (omega (arith, short))

  -- every list is empty, or has a last member
  abbrev HasLast : List ℕ → Type 0
  HasLast indices = (before : List ℕ) × (last : ℕ) × (indices ≡ before ++ last ∷ [])

  last_in : (i : ℕ) (indices : List ℕ) → HasLast (i ∷ indices)
  last_in i [] = ([], i, refl)
  last_in i (j ∷ indices) =
      let rest = last_in j indices in
      (i ∷ rest.0, rest.1, ap (λ (zs : List ℕ). i ∷ zs) rest.2)

  one_longer : (before : List ℕ) (last number : ℕ) → length (before ++ last ∷ []) ≡ number + 1 → length before ≡ number
  one_longer before last number long = omega (arith, long, length-append before (last ∷ []))

  -- all indices of the pool were tried
  pub layer_ended : (number to : ℕ) (trails : List (List ℕ)) → length s.pool ≤ to → to ≤ length s.pool → IsLayerUpTo s number to trails
      → IsLayer s (number + 1) trails
  layer_ended number to trails all most up = record {
    sound = up.sound;
    complete = λ indices trail long. by indices trail long;
    few = omega (arith, up.few, most);
  }
    where
      by : (indices : List ℕ) → IsTrail s indices → length indices ≡ number + 1 → HasAsGood s trails indices
      by [] trail long = absurd (omega (arith, long))
      by (i ∷ indices) trail long =
          let split = last_in i indices in
          let whole : IsTrail s (split.0 ++ split.1 ∷ []) = subst (IsTrail s) split.2 trail in
          let more : length (split.0 ++ split.1 ∷ []) ≡ number + 1 = sym (ap length split.2) ∙ long in
          let shorter = trail_less split.0 split.1 whole in
          let within : split.1 < length s.pool = slice_get_within s.pool split.1 shorter.parent shorter.at in
          subst (HasAsGood s trails) (sym split.2) (up.complete split.0 split.1 (omega (arith, within, all)) (one_longer split.0 split.1 number more) whole)

  as_good_more : (trails : List (List ℕ)) (trail indices : List ℕ) → HasAsGood s trails indices → HasAsGood s (trails ++ trail ∷ []) indices
  as_good_more trails trail indices good = (good.0, Contains-append_left trails (trail ∷ []) good.0 good.1, good.2, good.3)

  same_parent : (p q : ℕ) (x y : KeptCertificate) → p ≡ q → slice_get s.pool p ≡ Some x → slice_get s.pool q ≡ Some y → y ≡ x
  same_parent p q x y e a b =
      let there : slice_get s.pool p ≡ Some y = subst (λ (n : ℕ). slice_get s.pool n ≡ Some y) (sym e) b in
      let some : Some y ≡ Some x = sym there ∙ a in
      cc

  -- a trail of the layer that the parent continues, as good as one that it continues
  pub record GoodBelow (parent : KeptCertificate) (layer : List (List ℕ)) (indices : List ℕ) (number : ℕ) : Type 0 where
    pub trail : List ℕ
    pub has : Contains layer trail
    pub long : length trail ≡ number
    pub continues : Continues s parent trail
    pub up_to : IsUpTo trail indices

  good_below : (number index : ℕ) (layer : List (List ℕ)) (parent : KeptCertificate) (indices : List ℕ) → IsLayer s number layer
      → slice_get s.pool index ≡ Some parent
      → length indices ≡ number → IsTrail s (indices ++ index ∷ []) → GoodBelow parent layer indices number
  good_below number index layer parent indices is at long trail =
      let shorter = trail_less indices index trail in
      let same : shorter.parent ≡ parent = same_parent index index parent shorter.parent refl at shorter.at in
      let good = is.complete indices shorter.trail long in
      let length_is : length good.0 ≡ number = (is.sound good.0 good.1).1 in
      let continues : Continues s parent indices = subst (λ (p : KeptCertificate). Continues s p indices) same shorter.continues in
      record {
        trail = good.0;
        has = good.1;
        long = length_is;
        continues = continues_alike parent indices good.0 (length_is ∙ sym long) good.2 continues;
        up_to = good.3;
      }

  -- no trail of the layer is continued by the certificate at the next index
  pub layer_passed : (number to next : ℕ) (layer trails : List (List ℕ)) (parent : KeptCertificate) → next ≡ suc to → IsLayer s number layer
      → slice_get s.pool to ≡ Some parent
      → IsFirstOf (Continues s parent) layer None → IsLayerUpTo s number to trails → IsLayerUpTo s number next trails
  layer_passed number to next layer trails parent e is at none up = record {
    sound = up.sound;
    complete = λ indices index less long trail. by indices index long trail less (cases_lt index to);
    few = omega (arith, up.few, e);
  }
    where
      by : (indices : List ℕ) (index : ℕ) → length indices ≡ number → IsTrail s (indices ++ index ∷ []) → index < next → (index < to) ⊎ (to ≤ index)
          → HasAsGood s trails (indices ++ index ∷ [])
      by indices index long trail less (inl before) = up.complete indices index before long trail
      by indices index long trail less (inr after) =
          let here : index ≡ to = omega (arith, less, after, e) in
          let below = good_below number index layer parent indices is (subst (λ (n : ℕ). slice_get s.pool n ≡ Some parent) (sym here) at) long trail in
          absurd (none below.trail below.has below.continues)

  -- the first trail that the certificate at the next index continues was appended, longer by that index
  pub layer_grown : (number to next : ℕ) (layer trails : List (List ℕ)) (parent : KeptCertificate) (first : List ℕ) → next ≡ suc to → IsLayer s number layer
      → slice_get s.pool to ≡ Some parent
      → IsFirstOf (Continues s parent) layer (Some first) → IsLayerUpTo s number to trails → IsLayerUpTo s number next (trails ++ (first ++ to ∷ []) ∷ [])
  layer_grown number to next layer trails parent first e is at found up =
      let low = is.sound first found.0 in
      let grown : IsTrail s (first ++ to ∷ []) = trail_more first to parent low.0 at found.1 in
      let long_is : length (first ++ to ∷ []) ≡ number + 1 = omega (arith, low.1, length-append first (to ∷ [])) in
      record {
        sound = λ trail has. sound_by trail grown long_is (Contains-push_cases trails (first ++ to ∷ []) trail has);
        complete = λ indices index less long trail. by indices index long trail less (cases_lt index to);
        few = omega (arith, up.few, e, length-append trails ((first ++ to ∷ []) ∷ []));
      }
    where
      sound_by : (trail : List ℕ) → IsTrail s (first ++ to ∷ []) → length (first ++ to ∷ []) ≡ number + 1 → Contains trails trail ⊎ ((first ++ to ∷ []) ≡ trail)
          → IsTrail s trail × (length trail ≡ number + 1)
      sound_by trail grown long (inl earlier) = up.sound trail earlier
      sound_by trail grown long (inr same) = subst (λ (t : List ℕ). IsTrail s t × (length t ≡ number + 1)) same (grown, long)

      by : (indices : List ℕ) (index : ℕ) → length indices ≡ number → IsTrail s (indices ++ index ∷ []) → index < next → (index < to) ⊎ (to ≤ index)
          → HasAsGood s (trails ++ (first ++ to ∷ []) ∷ []) (indices ++ index ∷ [])
      by indices index long trail less (inl before) =
          as_good_more trails (first ++ to ∷ []) (indices ++ index ∷ []) (up.complete indices index before long trail)
      by indices index long trail less (inr after) =
          let here : index ≡ to = omega (arith, less, after, e) in
          let below = good_below number index layer parent indices is (subst (λ (n : ℕ). slice_get s.pool n ≡ Some parent) (sym here) at) long trail in
          let up_to : IsUpTo first indices = up_to_trans first below.trail indices (found.2 below.trail below.has below.continues) below.up_to in
          let long_first : length first ≡ length indices = (is.sound first found.0).1 ∙ sym long in
          let ends : end_of s (first ++ to ∷ []) ≡ end_of s (indices ++ to ∷ []) =
          end_more s.pool (Some s.checked) first to ∙ sym (end_more s.pool (Some s.checked) indices to) in
          subst (λ (n : ℕ). HasAsGood s (trails ++ (first ++ to ∷ []) ∷ []) (indices ++ n ∷ [])) (sym here)
          (first ++ to ∷ [], Contains-push trails (first ++ to ∷ []), ends, up_to_more first indices to long_first up_to)
