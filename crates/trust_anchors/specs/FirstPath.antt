-- The first of the shortest paths.
use Rattle.std.specs.Prelude.{◌≡◌, ◌⊎◌, ◌≤◌, ℕ, List, length}
use Rattle.std.specs.Cmp.Lexicographic.{slice_cmp}
use Rattle.std.specs.Ordering.{nat_cmp}
use Rattle.std.specs.declared.cmp.Ordering.TheVariants.{Less}
use Rattle.trust_anchors.specs.declared.path.AnchoredPath.{AnchoredPath}

-- at the first index in which they differ, the first list has the smaller one
abbrev pub IsBefore : List ℕ → List ℕ → Type 0
IsBefore a b = slice_cmp nat_cmp a b ≡ Less

-- the indices of the first path are before those of the second, or the same with an anchor that
-- isn't after the other's
abbrev pub IsNotAfter : AnchoredPath → AnchoredPath → Type 0
IsNotAfter a b = IsBefore a.pool b.pool ⊎ ((a.pool ≡ b.pool) × (a.anchor ≤ b.anchor))

-- The path is one of these, none of them is shorter, and of those as short it is the first.
pub record IsFirstPath (IsOne : AnchoredPath → Type 0) (path : AnchoredPath) : Type 0 where
  pub is : IsOne path
  pub shortest : (other : AnchoredPath) → IsOne other → length path.pool ≤ length other.pool
  pub first : (other : AnchoredPath) → IsOne other → length other.pool ≡ length path.pool
      → IsNotAfter path other
