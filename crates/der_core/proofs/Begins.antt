-- Octets that begin with an element.
use Rattle.std.proofs.Common.{◌≡◌, ℕ, List, ◌++◌}
use Rattle.der_core.specs.DerElement.{DerElement}
use Rattle.der_core.specs.Encoding.{encoding, IsDerWithin}

-- Octets begin with an element of at most so many levels.
abbrev pub HasElement : ℕ → List ℕ → Type 0
HasElement levels octets = (element : DerElement) × (rest : List ℕ) × IsDerWithin levels element × (octets ≡ encoding element ++ rest)
