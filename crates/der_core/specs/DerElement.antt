-- Elements (X.690 8.1.1): an element is primitive, with contents octets, or constructed, with
-- elements in order.
use Rattle.std.specs.Prelude.{ℕ, ◌+◌, List, [], ◌∷◌, Option, Some, None}

-- An element's tag is its identifier octet.
mutual
  pub data DerElement : Type 0 where
    Primitive : ℕ → List ℕ → DerElement
    Constructed : ℕ → DerElements → DerElement

  pub data DerElements : Type 0 where
    Nil : DerElements
    Cons : DerElement → DerElements → DerElements

-- a list of elements as the kids of one
abbrev pub row : List DerElement → DerElements
row [] = Nil
row (kid ∷ kids) = Cons kid (row kids)

-- the kids of an element as a list
abbrev pub listed : DerElements → List DerElement
listed Nil = []
listed (Cons kid kids) = kid ∷ listed kids

-- the identifier octet
abbrev pub tag_of : DerElement → ℕ
tag_of (Primitive tag content) = tag
tag_of (Constructed tag kids) = tag

-- the contents octets of a primitive element
abbrev pub content_of : DerElement → Option (List ℕ)
content_of (Primitive tag content) = Some content
content_of (Constructed tag kids) = None

-- the elements in a constructed element
abbrev pub kids_of : DerElement → Option (List DerElement)
kids_of (Primitive tag content) = None
kids_of (Constructed tag kids) = Some (listed kids)

-- how many elements there are, itself included
abbrev mutual
  pub element_count : DerElement → ℕ
  element_count (Primitive tag content) = 1
  element_count (Constructed tag kids) = elements_count kids + 1

  pub elements_count : DerElements → ℕ
  elements_count Nil = 0
  elements_count (Cons kid kids) = element_count kid + elements_count kids
