-- Steps in order: the first that can't be taken is that of the first part, or all of that part are
-- taken.
use Rattle.std.specs.Prelude.{⊤}
use Rattle.std.proofs.Common.{◌≡◌, List, [], ◌∷◌, ◌++◌, inl, inr}
use Rattle.der_core.specs.Steps.{Step, IsFirstUntaken, AreTaken, RefusesBySteps}

pub untaken_before : {E : Type 0} (a b : List (Step E)) (e : E) → IsFirstUntaken a e → IsFirstUntaken (a ++ b) e
untaken_before [] b e first = absurd first
untaken_before (step ∷ a) b e (inl refused) = inl refused
untaken_before (step ∷ a) b e (inr (taken, first)) = inr (taken, untaken_before a b e first)

pub untaken_behind : {E : Type 0} (a b : List (Step E)) (e : E) → AreTaken a → IsFirstUntaken b e → IsFirstUntaken (a ++ b) e
untaken_behind [] b e taken first = first
untaken_behind (step ∷ a) b e taken first = inr (taken.0, untaken_behind a b e taken.1 first)

pub refused_before : {E : Type 0} (memory : E) (a b : List (Step E)) (e : E) → RefusesBySteps memory a e → RefusesBySteps memory (a ++ b) e
refused_before memory a b e (inl first) = inl (untaken_before a b e first)
refused_before memory a b e (inr out) = inr out

pub refused_behind : {E : Type 0} (memory : E) (a b : List (Step E)) (e : E) → AreTaken a → RefusesBySteps memory b e → RefusesBySteps memory (a ++ b) e
refused_behind memory a b e taken (inl first) = inl (untaken_behind a b e taken first)
refused_behind memory a b e taken (inr out) = inr out

untaken_within : {E : Type 0} (a b c : List (Step E)) (e : E) → IsFirstUntaken (a ++ b) e → IsFirstUntaken (a ++ (b ++ c)) e
untaken_within [] b c e first = untaken_before b c e first
untaken_within (step ∷ a) b c e (inl refused) = inl refused
untaken_within (step ∷ a) b c e (inr (taken, first)) = inr (taken, untaken_within a b c e first)

pub refused_within : {E : Type 0} (memory : E) (a b c : List (Step E)) (e : E) → RefusesBySteps memory (a ++ b) e → RefusesBySteps memory (a ++ (b ++ c)) e
refused_within memory a b c e (inl first) = inl (untaken_within a b c e first)
refused_within memory a b c e (inr out) = inr out

-- ---- steps with one error each

-- a step has one error, and none if it can be taken
pub record HasOneError {E : Type 0} (step : Step E) : Type 0 where
  pub one : (e other : E) → step.refused e → step.refused other → e ≡ other
  pub none : (e : E) → step.taken → step.refused e → ⊥

abbrev pub HaveOneError : {E : Type 0} → List (Step E) → Type 0
HaveOneError [] = ⊤
HaveOneError (step ∷ steps) = HasOneError step × HaveOneError steps

pub one_before : {E : Type 0} (a b : List (Step E)) (e other : E) → HaveOneError a → IsFirstUntaken a e → IsFirstUntaken (a ++ b) other → e ≡ other
one_before [] b e other have first second = absurd first
one_before (step ∷ a) b e other have (inl x) (inl y) = have.0.one e other x y
one_before (step ∷ a) b e other have (inl x) (inr (taken, second)) = absurd (have.0.none e taken x)
one_before (step ∷ a) b e other have (inr (taken, first)) (inl y) = absurd (have.0.none other taken y)
one_before (step ∷ a) b e other have (inr (taken, first)) (inr (again, second)) = one_before a b e other have.1 first second

pub left_behind : {E : Type 0} (a b : List (Step E)) (e : E) → HaveOneError a → AreTaken a → IsFirstUntaken (a ++ b) e → IsFirstUntaken b e
left_behind [] b e have taken first = first
left_behind (step ∷ a) b e have taken (inl refused) = absurd (have.0.none e taken.0 refused)
left_behind (step ∷ a) b e have taken (inr (again, first)) = left_behind a b e have.1 taken.1 first
