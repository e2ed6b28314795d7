-- What acceptance means.
use Rattle.std.specs.Prelude.{◌⊎◌, ℕ, List, Option}
use Rattle.picky_check.specs.ChainHeadline.{IsVouchedChain}
use Rattle.picky_check.specs.Headline.{IsVouchedFor, IsVouchedSignature}
use Rattle.program_frame.specs.Shelf.{ShelfState}

-- What the words name, a signature file or a chain, is vouched for, and the line says so.
abbrev pub IsVouched : (words : List (List ℕ)) → (shelf shelf_now : ShelfState)
    → (held held_now : Option (List ℕ)) → Type 0
IsVouched words shelf shelf_now held held_now =
    IsVouchedFor words shelf shelf_now held held_now
    ⊎ (IsVouchedSignature words shelf shelf_now held held_now
    ⊎ IsVouchedChain words shelf shelf_now held held_now)
