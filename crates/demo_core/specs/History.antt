-- The issuing history of a demonstration.
use Rattle.std.specs.Prelude.{◌≡◌, ◌<◌, ℕ, ◌+◌, ◌*◌, ◌/◌, ◌%◌, ◌==◌, ◌||◌, not, if◌then◌else◌, List, Option, Some, None, map}
use Rattle.std.specs.List.{range_with_len, slice_get}
use Rattle.asn1_types.specs.Calendar.{IsUtcYear}
use Rattle.demo_core.specs.Draws.{drawn, state_after}
use Rattle.demo_core.specs.declared.history.Step.{Step}

-- The first step is a root, and so is one in eight. Any other is issued by an earlier one.
abbrev pub drawn_issuer : (index a : ℕ) → Option ℕ
drawn_issuer index a = if index == 0 || a % 8 == 0 then None else Some (a % index)

-- none, or 0 to 3
abbrev pub drawn_path_length : ℕ → Option ℕ
drawn_path_length b = if b / 4 % 3 == 0 then None else Some (b / 16 % 4)

-- The step by its issuer, its path length and the drawn numbers: three in four are CAs, and the
-- validity begins in 2000 to 2009 and ends in 2020 to 2039.
abbrev pub step_of : (issuer : Option ℕ) (b : ℕ) (path_length : Option ℕ) (c d : ℕ) → Step
step_of issuer b path_length c d = record {
  issuer = issuer;
  ca = not (b % 4 == 0);
  path_length = path_length;
  years = record { first = 2000 + c % 10; last = 2020 + d % 20 };
}

-- The step of this index, whose four numbers are drawn from this state on.
abbrev pub step_from : (index state : ℕ) → Step
step_from index state =
    step_of (drawn_issuer index (drawn state 0)) (drawn state 1)
    (drawn_path_length (drawn state 1)) (drawn state 2) (drawn state 3)

-- The step of this index in a history of so many: the generator begins with their number, and four
-- numbers were drawn for each step before.
abbrev pub demo_step : (count index : ℕ) → Step
demo_step count index = step_from index (state_after count (4 * index))

-- The history of so many steps.
abbrev pub demo_history : ℕ → List Step
demo_history count = map (demo_step count) (range_with_len 0 count)

-- The step can be the one at this index: its issuer, if any, is an earlier one, and two digits
-- represent its years (RFC 5280 4.1.2.5.1).
pub record IsStepAt (index : ℕ) (step : Step) : Type 0 where
  pub earlier : (issuer : ℕ) → step.issuer ≡ Some issuer → issuer < index
  pub begins : IsUtcYear step.years.first
  pub ends : IsUtcYear step.years.last

-- each step can be the one at its index
abbrev pub AreInOrder : List Step → Type 0
AreInOrder steps =
    (index : ℕ) (step : Step) → slice_get steps index ≡ Some step → IsStepAt index step
