-- The observable state of a sink, and what its calls do.
use Rattle.std.specs.Prelude.{ℕ, List, ◌≡◌, ◌<◌, ◌≤◌, ◌+◌, ◌-◌, ◌++◌, length, take, Option, Some}

-- The observable state of a sink at one moment.
pub record SinkState : Type 0 where
  -- its contents, if it exposes them
  pub held : Option (List ℕ)
  -- the number of octets it can still accept, if it exposes that
  pub room : Option ℕ
  -- the number of faults
  pub faults : ℕ

-- the contents of a sink that exposes them have grown by these octets
abbrev pub Appends : Option (List ℕ) → List ℕ → Option (List ℕ) → Type 0
Appends before more after = (held : List ℕ) → before ≡ Some held → after ≡ Some (held ++ more)

-- the contents or the room are unchanged
abbrev pub Keeps : {A : Type 0} → Option A → Option A → Type 0
Keeps {A} before after = (value : A) → before ≡ Some value → after ≡ Some value

-- the room of a sink that exposes it is this much less
abbrev pub Lowers : Option ℕ → ℕ → Option ℕ → Type 0
Lowers before n after = (room : ℕ) → before ≡ Some room → (n ≤ room) × (after ≡ Some (room - n))

-- it exposes room for at least this much
abbrev pub HasRoom : Option ℕ → ℕ → Type 0
HasRoom room n = (left : ℕ) × (room ≡ Some left) × (n ≤ left)

-- it refuses only a nonempty piece, if no room is left
abbrev pub IsFull : Option ℕ → List ℕ → Type 0
IsFull before piece = (room : ℕ) → before ≡ Some room → (room ≡ 0) × (0 < length piece)

-- The contents and the room of a sink that exposes both have this length together.
pub record HasCapacity (state : SinkState) (capacity : ℕ) : Type 0 where
  pub held : List ℕ
  pub room : ℕ
  pub held_is : state.held ≡ Some held
  pub room_is : state.room ≡ Some room
  pub together : length held + room ≡ capacity

-- what a sink that exposes both lost in room is what it gained in contents
abbrev pub KeepsCapacity : (before after : SinkState) → Type 0
KeepsCapacity before after = (capacity : ℕ) → HasCapacity before capacity
    → HasCapacity after capacity

-- A proper prefix of a text was appended, as long as the room if the sink exposed that.
pub record IsCutShort (text : List ℕ) (before after : SinkState) : Type 0 where
  pub count : ℕ
  pub short : count < length text
  pub front : Appends before.held (take count text) after.held
  pub full : (left : ℕ) → before.room ≡ Some left → left ≡ count
