-- Kids as a chain of elements and as a list.
use Rattle.std.specs.Prelude.{◌≡◌, List, [], ◌∷◌, refl}
use Rattle.std.proofs.Common.{ap}
use Rattle.der_core.specs.DerElement.{DerElement, DerElements, Nil, Cons, row, listed}

pub listed-row : (kids : List DerElement) → listed (row kids) ≡ kids
listed-row [] = refl
listed-row (kid ∷ kids) = ap (λ rest. kid ∷ rest) (listed-row kids)

pub row-listed : (kids : DerElements) → row (listed kids) ≡ kids
row-listed Nil = refl
row-listed (Cons kid kids) = ap (Cons kid) (row-listed kids)

-- facts on lists of kids that proofs rest on
pub ruleset kid_lists = (listed-row, row-listed)
