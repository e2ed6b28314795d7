-- How large an element is at most: a bound that is a sum over its parts.
use Rattle.std.specs.Prelude.{⊤, ℕ, ◌+◌, ◌^◌, ◌<◌, ◌≤◌, List, [], ◌∷◌, length}
use Rattle.der_core.specs.DerElement.{DerElement, Primitive, Constructed, DerElements, Nil, Cons}
use Rattle.der_core.specs.Encoding.{nesting, most_levels}

-- the contents, and six octets for each identifier with its length (X.690 8.1.3)
abbrev mutual
  pub size : DerElement → ℕ
  size (Primitive tag content) = length content + 6
  size (Constructed tag kids) = sizes kids + 6

  pub sizes : DerElements → ℕ
  sizes Nil = 0
  sizes (Cons kid kids) = size kid + sizes kids

-- The element has few octets and few levels.
pub record IsSmall (element : DerElement) : Type 0 where
  pub nested : nesting element ≤ most_levels
  pub light : size element < 2 ^ 32

-- each element is small
abbrev pub AreSmall : List DerElement → Type 0
AreSmall [] = ⊤
AreSmall (element ∷ elements) = IsSmall element × AreSmall elements
