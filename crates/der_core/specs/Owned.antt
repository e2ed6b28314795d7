-- Owned octets represent the one element whose encoding they are.
use Rattle.std.specs.Prelude.{◌≡◌, ℕ, List}
use Rattle.der_core.specs.DerElement.{DerElement}
use Rattle.der_core.specs.Encoding.{encoding, IsDer}

-- An owned element is within limits.
pub record KeptElement : Type 0 where
  pub element : DerElement
  pub der : IsDer element

-- The octets are the encoding of an element within limits.
abbrev pub IsKept : List ℕ → DerElement → Type 0
IsKept octets element = IsDer element × (octets ≡ encoding element)

-- The octets are the encoding of some element within limits.
abbrev pub Kept : List ℕ → Type 0
Kept octets = (element : DerElement) × IsKept octets element
