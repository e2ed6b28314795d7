-- A search under a scheme, and under one that agrees with it on the links.
use Rattle.std.proofs.Common.{◌≡◌, ◌⊎◌, ℕ, List, [], ◌∷◌, Option, Some, None, inl, inr, refl, sym, subst, arith}
use Rattle.std.specs.Prelude.{Contains, MatchOption, slice_get}
use Rattle.std.proofs.lemmas.List.Elements.{Contains-append_cases, Contains-append_left, Contains-append_right}
use Rattle.std.proofs.lemmas.List.Elements.{Contains-get_or, Contains-push, Contains-push_cases}
use Rattle.std.proofs.lemmas.Option.{get_or_from_slice_get, slice_get_within}
use Rattle.asn1_types.specs.declared.generalized_time.GeneralizedTime.{GeneralizedTime}
use Rattle.key_core.specs.Verifying.{Judge}
use Rattle.x509_core.specs.Chain.{last_of}
use Rattle.x509_core.specs.OwnedCertificate.{KeptCertificate}
use Rattle.x509_core.specs.Link.{IsSignedBy}
use Rattle.x509_core.proofs.Chains.{IsPlace, place}
use Rattle.trust_anchors.specs.Agreement.{AgreeOnLinks, IsAbove, IsBelow}
use Rattle.trust_anchors.specs.AnchoredPath.{AreAt, HasNoPath, IsAnchoredPath}
use Rattle.trust_anchors.specs.FirstPath.{IsFirstPath}
use Rattle.trust_anchors.specs.declared.anchor.Anchor.{Anchor}
use Rattle.trust_anchors.specs.declared.anchor.Purpose.{Purpose}
use Rattle.trust_anchors.specs.declared.path.AnchoredPath.{AnchoredPath}

-- ---- members of lists

module _ {K : Type 0} where
  none_there : (y : K) → Contains [] y → ⊥
  none_there y h = omega (arith, h.1)

  first_there : (x : K) (xs : List K) → Contains (x ∷ xs) x
  first_there x xs = Contains-append_left (x ∷ []) xs x (Contains-push [] x)

  only_there : (x y : K) → Contains (x ∷ []) y → x ≡ y
  only_there x y h = elim (Contains-push_cases [] x y h) [
    | inl none ↦ absurd (none_there y none)
    | inr same ↦ same
  ]

  first_or_later : (x : K) (xs : List K) (y : K) → Contains (x ∷ xs) y → (x ≡ y) ⊎ Contains xs y
  first_or_later x xs y h = elim (Contains-append_cases (x ∷ []) xs y h) [
    | inl one ↦ inl (only_there x y one)
    | inr more ↦ inr more
  ]

  at_index : (xs : List K) (index : ℕ) (x : K) → slice_get xs index ≡ Some x → Contains xs x
  at_index xs index x is =
      subst (λ (y : K). Contains xs y) (get_or_from_slice_get xs index x x is) (Contains-get_or xs index x (slice_get_within xs index x is))

  last_there : (checked : K) (before : List K) → (last_of checked before ≡ checked) ⊎ Contains before (last_of checked before)
  last_there checked [] = inl refl
  last_there checked (parent ∷ before) = elim (last_there parent before) [
    | inl same ↦ inr (subst (λ (y : K). Contains (parent ∷ before) y) (sym same) (first_there parent before))
    | inr more ↦ inr (Contains-append_right (parent ∷ []) before (last_of parent before) more)
  ]

at_indices : (pool : List KeptCertificate) (indices : List ℕ) (certificates : List KeptCertificate) → AreAt pool indices certificates → (x : KeptCertificate)
    → Contains certificates x → Contains pool x
at_indices pool [] [] are x h = absurd (none_there x h)
at_indices pool [] (y ∷ ys) are x h = absurd cc
at_indices pool (i ∷ indices) [] are x h = absurd cc
at_indices pool (i ∷ indices) (y ∷ ys) are x h =
    let head : slice_get pool i ≡ Some y = cc in
    let rest : AreAt pool indices ys = cc in
    elim (first_or_later y ys x h) [
      | inl same ↦ subst (λ (z : KeptCertificate). Contains pool z) same (at_index pool i y head)
      | inr more ↦ at_indices pool indices ys rest x more
    ]

-- ---- paths

module _ (a b : Judge) (date : GeneralizedTime) (checked : KeptCertificate) (pool : List KeptCertificate) (anchors : List Anchor) (purpose : Purpose) where
  module _ (path : AnchoredPath) (found : IsAnchoredPath a date checked pool anchors purpose path) (before : List KeptCertificate)
      (parent : KeptCertificate) where
    -- a parent on the path is of the pool, or the anchor
    is_above : IsPlace found.between before found.anchor.cert parent → IsAbove pool anchors purpose parent
    is_above (inl (p, q)) = inr (found.anchor, at_index anchors path.anchor found.anchor found.last, found.serves, sym q)
    is_above (inr (rest, p)) =
        inl (at_indices pool path.pool found.between found.are parent
        (subst (λ (xs : List KeptCertificate). Contains xs parent) (sym p) (Contains-append_right before (parent ∷ rest) parent (first_there parent rest))))

    among : (child : KeptCertificate) → IsPlace found.between before found.anchor.cert parent → Contains before child → Contains found.between child
    among child (inl (p, q)) h = subst (λ (xs : List KeptCertificate). Contains xs child) (sym p) h
    among child (inr (rest, p)) h = subst (λ (xs : List KeptCertificate). Contains xs child) (sym p) (Contains-append_left before (parent ∷ rest) child h)

    -- the certificate before it is the checked one, or of the pool
    is_below : IsPlace found.between before found.anchor.cert parent → IsBelow checked pool (last_of checked before)
    is_below there = elim (last_there checked before) [
      | inl same ↦ inl same
      | inr more ↦ inr (at_indices pool path.pool found.between found.are (last_of checked before) (among (last_of checked before) there more))
    ]

  pub path_moved : ((parent child : KeptCertificate) → IsAbove pool anchors purpose parent → IsBelow checked pool child
      → IsSignedBy a parent.elements child.elements → IsSignedBy b parent.elements child.elements)
      → (path : AnchoredPath) → IsAnchoredPath a date checked pool anchors purpose path → IsAnchoredPath b date checked pool anchors purpose path
  path_moved says path found = record {
    few = found.few;
    between = found.between;
    are = found.are;
    anchor = found.anchor;
    last = found.last;
    serves = found.serves;
    valid = found.valid;
    linked = λ before after parent are.
        let link = found.linked before after parent are in
        let there = place found.between before after found.anchor.cert parent are in
        record {
          authority = link.authority;
          depth = link.depth;
          valid = link.valid;
          agreed = link.agreed;
          signed = says parent (last_of checked before) (is_above path found before parent there) (is_below path found before parent there) link.signed;
        };
  }

-- what is found among some paths is found among the same ones
same_found : (IsOne IsOther : AnchoredPath → Type 0) → ((path : AnchoredPath) → IsOne path → IsOther path) → ((path : AnchoredPath) → IsOther path → IsOne path)
    → (found : Option AnchoredPath)
    → MatchOption found (HasNoPath IsOne) (IsFirstPath IsOne) → MatchOption found (HasNoPath IsOther) (IsFirstPath IsOther)
same_found IsOne IsOther there back None none = λ path is. none path (back path is)
same_found IsOne IsOther there back (Some path) first = record {
  is = there path first.is;
  shortest = λ other is. first.shortest other (back other is);
  first = λ other is long. first.first other (back other is) long;
}

pub found_alike : (a b : Judge) (date : GeneralizedTime) (checked : KeptCertificate) (pool : List KeptCertificate) (anchors : List Anchor) (purpose : Purpose)
    (found : Option AnchoredPath) → AgreeOnLinks a b checked pool anchors purpose
    → MatchOption found (HasNoPath (IsAnchoredPath a date checked pool anchors purpose)) (IsFirstPath (IsAnchoredPath a date checked pool anchors purpose))
    → MatchOption found (HasNoPath (IsAnchoredPath b date checked pool anchors purpose)) (IsFirstPath (IsAnchoredPath b date checked pool anchors purpose))
found_alike a b date checked pool anchors purpose found agree h =
    same_found (IsAnchoredPath a date checked pool anchors purpose) (IsAnchoredPath b date checked pool anchors purpose)
    (path_moved a b date checked pool anchors purpose (λ parent child above below. (agree parent child above below).0))
    (path_moved b a date checked pool anchors purpose (λ parent child above below. (agree parent child above below).1))
    found h
