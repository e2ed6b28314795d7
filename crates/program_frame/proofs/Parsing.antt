-- What a parser of words finds is the command that they request.
use Rattle.std.proofs.Common.{◌≡◌, List, ℕ, Option, Some, None, option_map, Result, Ok, Err, IfOk, IsErr, refl}
use Rattle.std.specs.Prelude.{MatchOption}
use Rattle.program_frame.specs.Commands.{AsksForNothing, IsParsed, Program, parsed_held}

module _ {Held Command E : Type 0} (program : Program Command) (words : List (List ℕ)) (asked : Held → Command) where
  -- if memory may run out
  pub IsParsed-result : (parsed : Result (Option Held) E)
      → IfOk parsed (λ found. MatchOption found (AsksForNothing program words) (λ held. program.AsksFor words (asked held)))
      → ((command : Command) → program.AsksFor words command → IfOk parsed (λ found. option_map asked found ≡ Some command))
      → (IsErr parsed → (command : Command) × program.AsksFor words command)
      → IsParsed program words (parsed_held asked parsed)
  IsParsed-result (Ok None) is only memory = record { asked = is; only = only; memory = λ e. absurd cc }
  IsParsed-result (Ok (Some held)) is only memory = record { asked = is; only = only; memory = λ e. absurd cc }
  IsParsed-result (Err e) is only memory = record { asked = tt; only = λ command some. tt; memory = λ e. memory refl }

  -- if it can't
  pub IsParsed-option : (found : Option Held)
      → MatchOption found (AsksForNothing program words) (λ held. program.AsksFor words (asked held))
      → ((command : Command) → program.AsksFor words command → option_map asked found ≡ Some command)
      → IsParsed {E = E} program words (parsed_held asked (Ok found))
  IsParsed-option found is only = IsParsed-result (Ok found) is only (λ e. absurd cc)
