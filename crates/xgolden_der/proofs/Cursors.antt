use Rattle.std.proofs.Common.{◌≡◌, ℕ, ◌<◌, List, Option, Some, IfSome, length, ap, subst, arith}
use Rattle.std.proofs.lemmas.List.{length-append}
use Rattle.der_core.specs.DerElement.{DerElement}
use Rattle.der_core.specs.Cursor.{BeginsAt, MovesPast}
use Rattle.der_core.specs.Facts.Fronts.{some_octets}

-- an element takes octets, so fewer are left
pub fewer_left : (level place place_now : ℕ) (octets whole rest : List ℕ) (element : DerElement) → BeginsAt level octets element (length whole)
    → MovesPast whole octets rest place place_now → length rest < length octets
fewer_left level place place_now octets whole rest element given moved =
    omega (arith, ap length moved.gone, length-append whole rest, given.first.many, some_octets element)

pub of_some : {X : Type 0} (P : X → Type 0) (o : Option X) (x : X) → o ≡ Some x → IfSome o P → P x
of_some P o x is p = subst (λ o. IfSome o P) is p
