-- That an element is within limits has at most one proof.
use Rattle.std.specs.Prelude.{◌≡◌, ℕ, List}
use Rattle.std.specs.Coded.{Coded-set, coded_ℕ, coded_list, ×_prop, Unit-prop, le_prop}
use Rattle.der_core.specs.DerElement.{DerElement, Primitive, Constructed, DerElements, Nil, Cons}
use Rattle.der_core.specs.Encoding.{IsTag, IsWellFormed, AreWellFormed, IsShort, AreShort, IsDerWithin}

pub numbers-set : (m n : ℕ) → IsProp (m ≡ n)
numbers-set m n = Coded-set coded_ℕ m n

pub octets-set : (a b : List ℕ) → IsProp (a ≡ b)
octets-set a b = Coded-set (coded_list coded_ℕ) a b

IsTag-prop : (tag : ℕ) → IsProp (IsTag tag)
IsTag-prop tag = hlevel (le_prop)

mutual
  IsWellFormed-prop : (element : DerElement) → IsProp (IsWellFormed element)
  IsWellFormed-prop (Primitive tag content) = hlevel (IsTag-prop, numbers-set)
  IsWellFormed-prop (Constructed tag kids) = hlevel (IsTag-prop, numbers-set, AreWellFormed-prop kids)

  pub AreWellFormed-prop : (elements : DerElements) → IsProp (AreWellFormed elements)
  AreWellFormed-prop Nil = Unit-prop
  AreWellFormed-prop (Cons kid kids) = ×_prop (IsWellFormed-prop kid) (AreWellFormed-prop kids)

mutual
  IsShort-prop : (element : DerElement) → IsProp (IsShort element)
  IsShort-prop (Primitive tag content) = le_prop
  IsShort-prop (Constructed tag kids) = ×_prop le_prop (AreShort-prop kids)

  pub AreShort-prop : (elements : DerElements) → IsProp (AreShort elements)
  AreShort-prop Nil = Unit-prop
  AreShort-prop (Cons kid kids) = ×_prop (IsShort-prop kid) (AreShort-prop kids)

pub IsDerWithin-prop : (levels : ℕ) (element : DerElement) → IsProp (IsDerWithin levels element)
IsDerWithin-prop levels element = hlevel (le_prop, IsWellFormed-prop element, IsShort-prop element)
