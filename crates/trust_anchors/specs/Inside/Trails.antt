-- Trails: chains above a certificate, by their indices in the pool. For each length the search
-- keeps the first trail to each certificate.
use Rattle.std.specs.Prelude.{◌≡◌, ◌+◌, ◌*◌, ◌<◌, ◌≤◌, ◌++◌, ℕ, Contains, List, [], ◌∷◌, Option, Some, None, IfSome, false, length, slice_get}
use Rattle.std.specs.Cmp.Lexicographic.{slice_cmp}
use Rattle.std.specs.Ordering.{nat_cmp, is_gt}
use Rattle.key_core.specs.Verifying.{Judge}
use Rattle.x509_core.specs.Chain.{IsLinkedChain}
use Rattle.x509_core.specs.OwnedCertificate.{KeptCertificate}
use Rattle.x509_core.specs.Link.{IsLink}
use Rattle.x509_core.specs.declared.window.Window.{Window}
use Rattle.trust_anchors.specs.AnchoredPath.{AreAt}
use Rattle.trust_anchors.specs.Anchors.{Serves}
use Rattle.trust_anchors.specs.FirstPath.{IsNotAfter}
use Rattle.trust_anchors.specs.declared.anchor.Anchor.{Anchor}
use Rattle.trust_anchors.specs.declared.anchor.Purpose.{Purpose}
use Rattle.trust_anchors.specs.declared.path.AnchoredPath.{AnchoredPath}
use Rattle.trust_anchors.specs.declared.search.Search.{Search}

-- what is searched, by a scheme that verifies signatures so
pub record Sought : Type 0 where
  pub judge : Judge
  pub window : Window
  pub checked : KeptCertificate
  pub pool : List KeptCertificate
  pub anchors : List Anchor
  pub purpose : Purpose

-- what a search is for
abbrev pub sought : {S : Type 0} → Judge → Search S → Sought
sought judge search = record {
  judge = judge;
  window = search.window;
  checked = search.cert.now;
  pool = search.pool.now;
  anchors = search.anchors.now;
  purpose = search.purpose;
}

-- the certificate at the last of the indices, or another one if there are none
abbrev pub end_from : List KeptCertificate → Option KeptCertificate → List ℕ
    → Option KeptCertificate
end_from pool end [] = end
end_from pool end (index ∷ indices) = end_from pool (slice_get pool index) indices

-- the last certificate of a trail
abbrev pub end_of : Sought → List ℕ → Option KeptCertificate
end_of s = end_from s.pool (Some s.checked)

-- The certificates at the indices are a chain above the checked one.
pub record IsTrail (s : Sought) (indices : List ℕ) : Type 0 where
  pub parents : List KeptCertificate
  pub are : AreAt s.pool indices parents
  pub linked : IsLinkedChain s.judge s.window s.checked parents

-- the certificate may have issued the last one of the trail
abbrev pub Continues : Sought → KeptCertificate → List ℕ → Type 0
Continues s parent indices =
    (child : KeptCertificate) × (end_of s indices ≡ Some child)
    × IsLink s.judge s.window (length indices) parent.elements child.elements

-- the anchor at this index serves the purpose and may have issued the certificate
abbrev pub IsAnchorAt : Sought → ℕ → KeptCertificate → ℕ → Type 0
IsAnchorAt s number child index =
    (anchor : Anchor) × (slice_get s.anchors index ≡ Some anchor) × Serves anchor s.purpose
    × IsLink s.judge s.window number anchor.cert.elements child.elements

-- no anchor before this index serves the purpose and may have issued the certificate
abbrev pub HasNoAnchorBefore : Sought → ℕ → KeptCertificate → ℕ → Type 0
HasNoAnchorBefore s number child to =
    (index : ℕ) → index < to → IsAnchorAt s number child index → ⊥

-- the first such anchor, or none
abbrev pub IsFirstAnchor : Sought → ℕ → KeptCertificate → Option ℕ → Type 0
IsFirstAnchor s number child None = (index : ℕ) → IsAnchorAt s number child index → ⊥
IsFirstAnchor s number child (Some index) =
    IsAnchorAt s number child index × HasNoAnchorBefore s number child index

-- some anchor may have issued the last certificate of the trail
abbrev pub HasAnchor : Sought → List ℕ → Type 0
HasAnchor s indices =
    (child : KeptCertificate) × (index : ℕ) × (end_of s indices ≡ Some child)
    × IsAnchorAt s (length indices) child index

-- the list is before another, or the same
abbrev pub IsUpTo : List ℕ → List ℕ → Type 0
IsUpTo a b = is_gt (slice_cmp nat_cmp a b) ≡ false

-- of the trails for which a rule holds, the first in order, or none
abbrev pub IsFirstOf : (List ℕ → Type 0) → List (List ℕ) → Option (List ℕ) → Type 0
IsFirstOf holds trails None = (trail : List ℕ) → Contains trails trail → holds trail → ⊥
IsFirstOf holds trails (Some first) =
    Contains trails first × holds first
    × ((trail : List ℕ) → Contains trails trail → holds trail → IsUpTo first trail)

-- a trail of the list has the same end as this one, and isn't after it
abbrev pub HasAsGood : Sought → List (List ℕ) → List ℕ → Type 0
HasAsGood s trails indices =
    (trail : List ℕ) × Contains trails trail × (end_of s trail ≡ end_of s indices)
    × IsUpTo trail indices

-- all in the list are trails of this length
abbrev pub AreTrails : Sought → ℕ → List (List ℕ) → Type 0
AreTrails s number trails =
    (trail : List ℕ) → Contains trails trail → IsTrail s trail × (length trail ≡ number)

-- The trails of this length, the first one to each certificate.
pub record IsLayer (s : Sought) (number : ℕ) (trails : List (List ℕ)) : Type 0 where
  pub sound : AreTrails s number trails
  pub complete : (indices : List ℕ) → IsTrail s indices → length indices ≡ number
      → HasAsGood s trails indices
  pub few : length trails ≤ length s.pool + 1

-- The first trails that are one longer and end before an index of the pool.
pub record IsLayerUpTo (s : Sought) (number to : ℕ) (trails : List (List ℕ)) : Type 0 where
  pub sound : AreTrails s (number + 1) trails
  pub complete : (indices : List ℕ) (index : ℕ) → index < to → length indices ≡ number
      → IsTrail s (indices ++ index ∷ []) → HasAsGood s trails (indices ++ index ∷ [])
  pub few : length trails ≤ to

-- the indices of a path, if there is one
abbrev pub indices_in : Option AnchoredPath → Option (List ℕ)
indices_in None = None
indices_in (Some path) = Some path.pool

-- the anchor of the path is the first one for its last certificate
abbrev pub HasFirstAnchor : Sought → AnchoredPath → Type 0
HasFirstAnchor s path =
    (child : KeptCertificate) × (end_of s path.pool ≡ Some child)
    × IsFirstAnchor s (length path.pool) child (Some path.anchor)

-- The first path among those of some trails, or none.
pub record IsFirstSoFar (s : Sought) (trails : List (List ℕ))
    (first : Option AnchoredPath) : Type 0 where
  pub least : IsFirstOf (HasAnchor s) trails (indices_in first)
  pub anchor : IfSome first (HasFirstAnchor s)

-- a trail and an anchor that may have issued its last certificate
pub record EndsAtAnchor (s : Sought) (path : AnchoredPath) : Type 0 where
  pub trail : IsTrail s path.pool
  pub child : KeptCertificate
  pub end : end_of s path.pool ≡ Some child
  pub last : IsAnchorAt s (length path.pool) child path.anchor

-- the first path of this length to an anchor, or none
abbrev pub IsFirstWith : Sought → ℕ → Option AnchoredPath → Type 0
IsFirstWith s number None =
    (path : AnchoredPath) → EndsAtAnchor s path → length path.pool ≡ number → ⊥
IsFirstWith s number (Some path) =
    EndsAtAnchor s path × (length path.pool ≡ number)
    × ((other : AnchoredPath) → EndsAtAnchor s other → length other.pool ≡ number
    → IsNotAfter path other)

-- no path with fewer indices ends at an anchor
abbrev pub HasNoneShorter : Sought → ℕ → Type 0
HasNoneShorter s number =
    (path : AnchoredPath) → EndsAtAnchor s path → length path.pool < number → ⊥

-- the first of the shortest paths with at most 15 indices, or none
abbrev pub IsFound : Sought → Option AnchoredPath → Type 0
IsFound s None = HasNoneShorter s 16
IsFound s (Some path) =
    HasNoneShorter s (length path.pool) × (length path.pool ≤ 15)
    × IsFirstWith s (length path.pool) (Some path)

-- the most signatures that are verified for one length
abbrev pub most_verified : Sought → ℕ
most_verified s = (length s.pool + 1) * (length s.pool + length s.anchors)
