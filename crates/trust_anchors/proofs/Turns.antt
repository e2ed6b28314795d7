-- One turn of each loop of the search.
use Rattle.std.proofs.Common.{Bool, ◌≡◌, ◌≢◌, ◌⊎◌, ◌↔◌, ℕ, suc, ◌+◌, ◌<◌, ◌≤◌, List, [], ◌∷◌, ◌++◌, get_or, length, take, Option}
use Rattle.std.proofs.Common.{Some, None, IfSome, IsSome, IsTrue, false, inl, inr, refl, sym, ap, subst, ◌∙◌, arith, add-one}
use Rattle.std.specs.Prelude.{slice_get, Contains}
use Rattle.std.proofs.lemmas.Bool.{cases_lt, false≢true}
use Rattle.std.proofs.lemmas.List.{take_all, take_more}
use Rattle.std.proofs.lemmas.List.Elements.{Contains-get_or}
use Rattle.std.proofs.lemmas.Option.{slice_get_within}
use Rattle.der_core.specs.Rules.{OrMemory}
use Rattle.x509_core.specs.OwnedCertificate.{KeptCertificate}
use Rattle.x509_core.specs.declared.error.CertError.{CertError}
use Rattle.x509_core.specs.declared.error.CertError.TheVariants as errors
use Rattle.trust_anchors.specs.Anchors.{Serves}
use Rattle.trust_anchors.specs.FirstPath.{IsBefore}
use Rattle.trust_anchors.specs.Inside.Trails.{Continues, HasAnchor, HasFirstAnchor, HasNoAnchorBefore, IsAnchorAt}
use Rattle.trust_anchors.specs.Inside.Trails.{IsFirstAnchor, IsFirstOf, IsFirstSoFar, IsLayer, Sought, end_of, indices_in}
use Rattle.trust_anchors.specs.declared.anchor.Anchor.{Anchor}
use Rattle.trust_anchors.specs.declared.path.AnchoredPath.{AnchoredPath}
use Rattle.trust_anchors.proofs.Trails.{Linking, first_failed, first_kept, first_taken, trail_end}

module _ {X : Type 0} (xs : List X) where
  -- the members so far, with the next one
  pub take_next : (i next : ℕ) (x : X) → next ≡ suc i → i < length xs → x ≡ get_or xs i x → take i xs ++ x ∷ [] ≡ take next xs
  take_next i next x e less is =
      let more : take (i + 1) xs ≡ take i xs ++ get_or xs i x ∷ [] = take_more xs i x less in
      let same : take (i + 1) xs ≡ take next xs = ap (λ (n : ℕ). take n xs) (add-one i ∙ sym e) in
      ap (λ (y : X). take i xs ++ y ∷ []) is ∙ sym more ∙ same

  pub next_member : (i : ℕ) (x : X) → i < length xs → x ≡ get_or xs i x → Contains xs x
  next_member i x less is = subst (Contains xs) (sym is) (Contains-get_or xs i x less)

module _ {X : Type 0} (xs : List X) where
  -- what held of the members so far leads to what holds with the next one
  pub turned : (F G : List X → Type 0) (i next : ℕ) (x : X) → next ≡ suc i → i < length xs → x ≡ get_or xs i x → ((some : List X) → F some → G (some ++ x ∷ []))
      → F (take i xs) → G (take next xs)
  turned F G i next x e less is turn held = subst G (take_next xs i next x e less is) (turn (take i xs) held)

  -- what holds of the members so far holds of all, after the last one
  pub ended : (F : List X → Type 0) (i : ℕ) → length xs ≤ i → F (take i xs) → F xs
  ended F i all held = subst F (take_all i xs all) held

-- a link isn't one if a rule of it is broken
pub refused_link : (Link : Type 0) (Broken : CertError → Type 0) (e : CertError) → (Link → Broken e → ⊥) → OrMemory errors.Memory Broken e
    → e ≢ errors.Memory → Link → ⊥
refused_link Link Broken e law (inl broken) other link = law link broken
refused_link Link Broken e law (inr memory) other link = other memory

-- false is the answer where there is no link
pub answer_false : (Link : Type 0) (is : Bool) → is ≡ false → (Link → ⊥) → IsTrue is ↔ Link
answer_false Link is e fails = (λ on. absurd (false≢true (sym e ∙ on)), λ link. absurd (fails link))

-- a trail of a layer has an end
pub has_end : (s : Sought) (number : ℕ) (layer : List (List ℕ)) (trail : List ℕ) → IsLayer s number layer → Contains layer trail → IsSome (end_of s trail)
has_end s number layer trail is has = subst (λ (o : Option KeptCertificate). IsSome o) (sym (trail_end s trail (is.sound trail has).0)) refl

-- ---- anchors

module _ (s : Sought) (number : ℕ) (child : KeptCertificate) where
  -- the anchor serves the purpose and may have issued the certificate
  abbrev pub IsOver : Anchor → Type 0
  IsOver anchor = Serves anchor s.purpose × Linking s number anchor.cert child

  pub is_at : (index : ℕ) (anchor : Anchor) → slice_get s.anchors index ≡ Some anchor → IsOver anchor → IsAnchorAt s number child index
  is_at index anchor at over = (anchor, at, over.0, over.1)

  not_at : (index : ℕ) (anchor : Anchor) → slice_get s.anchors index ≡ Some anchor → (IsOver anchor → ⊥) → IsAnchorAt s number child index → ⊥
  not_at index anchor at fails over =
      let some : Some over.0 ≡ Some anchor = sym over.1 ∙ at in
      let same : over.0 ≡ anchor = cc in
      fails (subst IsOver same (over.2, over.3))

  pub none_before_next : (index next : ℕ) (anchor : Anchor) → next ≡ suc index → HasNoAnchorBefore s number child index
      → slice_get s.anchors index ≡ Some anchor → (IsOver anchor → ⊥)
      → HasNoAnchorBefore s number child next
  none_before_next index next anchor e none at fails other less over = by (cases_lt other index)
    where
      by : (other < index) ⊎ (index ≤ other) → ⊥
      by (inl before) = none other before over
      by (inr after) =
          let here : other ≡ index = omega (arith, less, after, e) in
          not_at index anchor at fails (subst (IsAnchorAt s number child) here over)

  pub none_at_all : (to : ℕ) → length s.anchors ≤ to → HasNoAnchorBefore s number child to → IsFirstAnchor s number child None
  none_at_all to all none index over = none index (omega (arith, slice_get_within s.anchors index over.0 over.1, all)) over

-- ---- certificates

module _ (s : Sought) (parent : KeptCertificate) where
  pub continues_by : (number : ℕ) (trail : List ℕ) (child : KeptCertificate) → length trail ≡ number → end_of s trail ≡ Some child
      → Linking s number parent child → Continues s parent trail
  continues_by number trail child long end link = (child, end, subst (λ (n : ℕ). Linking s n parent child) (sym long) link)

  pub continues_not : (number : ℕ) (trail : List ℕ) (child : KeptCertificate) → length trail ≡ number → end_of s trail ≡ Some child
      → (Linking s number parent child → ⊥) → Continues s parent trail → ⊥
  continues_not number trail child long end fails continues =
      let some : Some continues.0 ≡ Some child = sym continues.1 ∙ end in
      let same : continues.0 ≡ child = cc in
      fails (subst (λ (n : ℕ). Linking s n parent child) long (subst (Linking s (length trail) parent) same continues.2))

-- ---- paths

module _ (s : Sought) (trails : List (List ℕ)) (trail : List ℕ) where
  abbrev IsBeforeFirst : Option AnchoredPath → Type 0
  IsBeforeFirst first = IfSome first (λ path. IsBefore trail path.pool)

  before_indices : (first : Option AnchoredPath) → IfSome (indices_in first) (IsBefore trail) → IsBeforeFirst first
  before_indices None before = before
  before_indices (Some path) before = before

  before_path : (first : Option AnchoredPath) → IsBeforeFirst first → IfSome (indices_in first) (IsBefore trail)
  before_path None before = before
  before_path (Some path) before = before

  pub path_kept : (first : Option AnchoredPath) → (IsBeforeFirst first → ⊥) → IsFirstSoFar s trails first → IsFirstSoFar s (trails ++ trail ∷ []) first
  path_kept first after so_far = record {
    least = first_kept (HasAnchor s) trails trail (indices_in first) (λ before. after (before_indices first before)) so_far.least;
    anchor = so_far.anchor;
  }

  pub path_failed : (first : Option AnchoredPath) (number : ℕ) (child : KeptCertificate) → length trail ≡ number → end_of s trail ≡ Some child
      → IsFirstAnchor s number child None
      → IsFirstSoFar s trails first → IsFirstSoFar s (trails ++ trail ∷ []) first
  path_failed first number child long end none so_far = record {
    least = first_failed (HasAnchor s) trails trail (indices_in first) fails so_far.least;
    anchor = so_far.anchor;
  }
    where
      fails : HasAnchor s trail → ⊥
      fails has =
          let some : Some has.0 ≡ Some child = sym has.2 ∙ end in
          let same : has.0 ≡ child = cc in
          none has.1 (subst (λ (n : ℕ). IsAnchorAt s n child has.1) long (subst (λ (c : KeptCertificate). IsAnchorAt s (length trail) c has.1) same has.3))

  pub path_taken : (first : Option AnchoredPath) (number : ℕ) (child : KeptCertificate) (path : AnchoredPath) → length trail ≡ number
      → end_of s trail ≡ Some child → path.pool ≡ trail
      → IsFirstAnchor s number child (Some path.anchor) → IsBeforeFirst first → IsFirstSoFar s trails first → IsFirstSoFar s (trails ++ trail ∷ []) (Some path)
  path_taken first number child path long end same over before so_far =
      let here : IsFirstAnchor s (length trail) child (Some path.anchor) = subst (λ (n : ℕ). IsFirstAnchor s n child (Some path.anchor)) (sym long) over in
      let has : HasAnchor s trail = (child, path.anchor, end, here.0) in
      let own : HasFirstAnchor s path = subst (λ (indices : List ℕ). (c : KeptCertificate) × (end_of s indices ≡ Some c)
      × IsFirstAnchor s (length indices) c (Some path.anchor)) (sym same) (child, end, here) in
      let taken : IsFirstOf (HasAnchor s) (trails ++ trail ∷ []) (Some trail) =
      first_taken (HasAnchor s) trails trail (indices_in first) (before_path first before) has so_far.least in
      record {
        least = subst (λ (indices : List ℕ). IsFirstOf (HasAnchor s) (trails ++ trail ∷ []) (Some indices)) (sym same) taken;
        anchor = own;
      }

-- nothing was found among no trails
pub begun : (s : Sought) → IsFirstSoFar s [] None
begun s = record { least = λ trail none held. absurd (omega (arith, none.1)); anchor = tt }
