-- Steps taken in order, and the error of the first that fails.
use Rattle.std.specs.Prelude.{◌⊎◌, ⊤, List, [], ◌∷◌}
use Rattle.der_core.specs.Rules.{OrMemory}

-- A step: what holds if it can be taken, and the errors that report that it can't.
pub record Step (E : Type 0) : Type 1 where
  pub taken : Type 0
  pub refused : E → Type 0

-- The first step in order that can't be taken fails, and the error reports it.
abbrev pub IsFirstUntaken : {E : Type 0} → List (Step E) → E → Type 0
IsFirstUntaken [] e = ⊥
IsFirstUntaken (step ∷ steps) e = step.refused e ⊎ (step.taken × IsFirstUntaken steps e)

-- all steps are taken
abbrev pub AreTaken : {E : Type 0} → List (Step E) → Type 0
AreTaken [] = ⊤
AreTaken (step ∷ steps) = step.taken × AreTaken steps

-- the error reports the first step that can't be taken, unless it is out of memory
abbrev pub RefusesBySteps : {E : Type 0} → (memory : E) → List (Step E) → E → Type 0
RefusesBySteps memory steps = OrMemory memory (IsFirstUntaken steps)
