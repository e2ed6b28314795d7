-- Of which members of a list a rule holds, and of which first.
use Rattle.std.specs.Prelude.{◌≡◌, ℕ, ◌<◌, List, Some, slice_get}

-- the rule holds of no member
abbrev pub HoldsOfNone : {X : Type 0} → (X → Type 0) → List X → Type 0
HoldsOfNone {X} holds xs = (index : ℕ) (x : X) → slice_get xs index ≡ Some x → holds x → ⊥

-- the rule holds of some member
abbrev pub HoldsOfSome : {X : Type 0} → (X → Type 0) → List X → Type 0
HoldsOfSome {X} holds xs = (index : ℕ) × (x : X) × (slice_get xs index ≡ Some x) × holds x

-- the rule holds of no member before an index
abbrev pub HoldsOfNoneBefore : {X : Type 0} → (X → Type 0) → List X → ℕ → Type 0
HoldsOfNoneBefore {X} holds xs to =
    (index : ℕ) (x : X) → index < to → slice_get xs index ≡ Some x → holds x → ⊥

-- The rule holds of this member and of none before it.
pub record IsFirst {X : Type 0} (holds : X → Type 0) (xs : List X) (x : X) : Type 0 where
  pub index : ℕ
  pub stands : slice_get xs index ≡ Some x
  pub fits : holds x
  pub least : HoldsOfNoneBefore holds xs index
