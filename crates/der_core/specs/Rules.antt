-- Rules checked in order, and the error of the first that is broken.
use Rattle.std.specs.Prelude.{◌≡◌, ◌⊎◌, List, [], ◌∷◌, Result, Err}

-- A rule by its errors: it is broken if one of them reports so.
abbrev pub Rule : Type 0 → Type 1
Rule E = E → Type 0

-- no error reports that the rule is broken
abbrev pub IsMet : {E : Type 0} → (E → Type 0) → Type 0
IsMet {E} rule = (e : E) → rule e → ⊥

-- The first rule in order that isn't met is broken, and the error reports it.
abbrev pub IsFirstBroken : {E : Type 0} → List (E → Type 0) → E → Type 0
IsFirstBroken [] e = ⊥
IsFirstBroken (rule ∷ rules) e = rule e ⊎ (IsMet rule × IsFirstBroken rules e)

-- The error reports so, unless it is out of memory.
abbrev pub OrMemory : {E : Type 0} → (memory : E) → (E → Type 0) → E → Type 0
OrMemory memory Refuses e = Refuses e ⊎ (e ≡ memory)

-- Two results are the same, unless one of them is out of memory.
abbrev pub AreOneUnlessMemory : {A E : Type 0} → (memory : E) → Result A E → Result A E → Type 0
AreOneUnlessMemory memory a b = (a ≡ b) ⊎ ((a ≡ Err memory) ⊎ (b ≡ Err memory))

-- The error reports the first broken rule, unless it is out of memory.
abbrev pub RefusesByRules : {E : Type 0} → (memory : E) → List (Rule E) → E → Type 0
RefusesByRules memory rules = OrMemory memory (IsFirstBroken rules)
