-- A leaf under an intermediate under a root, worked out: which paths are anchored, and which comes first.
use Rattle.std.proofs.Common.{◌≡◌, ℕ, zero, suc, List, [], ◌∷◌, Some, IsTrue, true, false, inl, inr, refl, sym, subst, arith}
use Rattle.std.specs.Prelude.{slice_get}
use Rattle.std.proofs.lemmas.Bool.{false≢true}
use Rattle.asn1_types.specs.declared.generalized_time.GeneralizedTime.{GeneralizedTime}
use Rattle.key_core.specs.Verifying.{Judge}
use Rattle.x509_core.specs.OwnedCertificate.{KeptCertificate}
use Rattle.x509_core.specs.Link.{IsLink}
use Rattle.x509_core.specs.Window.{IsWithinWindow}
use Rattle.trust_anchors.specs.AnchoredPath.{HasNoPath, IsAnchoredPath, window_on}
use Rattle.trust_anchors.specs.FirstPath.{IsNotAfter}
use Rattle.trust_anchors.specs.declared.anchor.Anchor.{Anchor}
use Rattle.trust_anchors.specs.declared.anchor.Purpose.TheVariants as purposes
use Rattle.trust_anchors.specs.declared.path.AnchoredPath.{AnchoredPath}
use Rattle.x509_core.proofs.Chains.{linked_more, linked_none}

module _ {X : Type 0} where
  only_one : (x : X) (index : ℕ) (y : X) → slice_get (x ∷ []) index ≡ Some y → x ≡ y
  only_one x zero y is = cc
  only_one x (suc index) y is = absurd cc

abbrev path_by : List ℕ → ℕ → AnchoredPath
path_by indices anchor = record { pool = indices; anchor = anchor }

module _ (judge : Judge) (date : GeneralizedTime) (leaf int root : KeptCertificate) where
  abbrev Links : ℕ → KeptCertificate → KeptCertificate → Type 0
  Links number parent child = IsLink judge (window_on date) number parent.elements child.elements

  abbrev IsValid : KeptCertificate → Type 0
  IsValid certificate = IsWithinWindow (window_on date) certificate.elements

  -- trusted for signing code alone
  abbrev anchor : Anchor
  anchor = record { cert = root; code = true; time = false }

  -- the anchor is numbered 1, as the intermediate is between it and the leaf
  pub over_one : IsValid leaf → Links 0 int leaf → Links 1 root int → IsAnchoredPath judge date leaf (int ∷ []) (anchor ∷ []) purposes.Code (path_by (0 ∷ []) 0)
  over_one valid first second = record {
    few = omega arith;
    between = int ∷ [];
    are = refl;
    anchor = anchor;
    last = refl;
    serves = refl;
    valid = valid;
    linked = linked_more Links leaf (int ∷ []) root (linked_more Links leaf [] int (linked_none Links leaf) first) second;
  }

  -- a certificate before the intermediate doesn't hide the path, whatever it is
  pub behind_another : (another : KeptCertificate) → IsValid leaf → Links 0 int leaf → Links 1 root int
      → IsAnchoredPath judge date leaf (another ∷ int ∷ []) (anchor ∷ []) purposes.Code (path_by (1 ∷ []) 0)
  behind_another another valid first second = record {
    few = omega arith;
    between = int ∷ [];
    are = refl;
    anchor = anchor;
    last = refl;
    serves = refl;
    valid = valid;
    linked = linked_more Links leaf (int ∷ []) root (linked_more Links leaf [] int (linked_none Links leaf) first) second;
  }

  -- without a pool the anchor issued the certificate itself
  pub under_the_anchor : IsValid int → Links 0 root int → IsAnchoredPath judge date int [] (anchor ∷ []) purposes.Code (path_by [] 0)
  under_the_anchor valid link = record {
    few = omega arith;
    between = [];
    are = refl;
    anchor = anchor;
    last = refl;
    serves = refl;
    valid = valid;
    linked = linked_more Links int [] root (linked_none Links int) link;
  }

  -- no path ends at an anchor that is trusted for another purpose
  pub of_another_purpose : (checked : KeptCertificate) (pool : List KeptCertificate)
      → HasNoPath (IsAnchoredPath judge date checked pool (anchor ∷ []) purposes.Time)
  of_another_purpose checked pool path is =
      false≢true (subst (λ (other : Anchor). IsTrue other.time) (sym (only_one anchor path.anchor is.anchor is.last)) is.serves)

-- the indices decide, from the nearest parent on, before the anchor
pub by_indices : IsNotAfter (path_by (0 ∷ 2 ∷ []) 1) (path_by (1 ∷ 0 ∷ []) 0)
by_indices = inl refl

-- then the anchor
pub by_anchor : IsNotAfter (path_by (1 ∷ []) 0) (path_by (1 ∷ []) 1)
by_anchor = inr (refl, omega arith)

pub not_by_anchor : IsNotAfter (path_by (1 ∷ []) 0) (path_by (0 ∷ []) 1) → ⊥
not_by_anchor (inl before) = absurd cc
not_by_anchor (inr (same, up)) = absurd cc
