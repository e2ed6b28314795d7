-- The one DER encoding of an element (X.690 8.1 and 10.1), and which elements have one here.
use Rattle.std.specs.Prelude.{◌≡◌, ℕ, ◌+◌, ◌/◌, ◌%◌, ◌^◌, ◌<◌, ◌≤◌, ◌≢◌, max, nat_lt, if◌then◌else◌, List, [], ◌∷◌, ◌++◌, length, replicate}
use Rattle.der_core.specs.DerElement.{DerElement, Primitive, Constructed, DerElements, Nil, Cons}

-- the shortest definite form of a length below 2^32 (X.690 8.1.3.4, 8.1.3.5, 10.1)
unfoldable pub length_octets : ℕ → List ℕ
length_octets n =
    if nat_lt n (2 ^ 7) then n ∷ []
    else (if nat_lt n (2 ^ 8) then 129 ∷ n ∷ []
    else (if nat_lt n (2 ^ 16) then 130 ∷ n / 2 ^ 8 ∷ n % 2 ^ 8 ∷ []
    else (if nat_lt n (2 ^ 24) then 131 ∷ n / 2 ^ 16 ∷ n / 2 ^ 8 % 2 ^ 8 ∷ n % 2 ^ 8 ∷ []
    else 132 ∷ n / 2 ^ 24 ∷ n / 2 ^ 16 % 2 ^ 8 ∷ n / 2 ^ 8 % 2 ^ 8 ∷ n % 2 ^ 8 ∷ [])))

-- identifier octet, length and contents
abbrev pub framed : ℕ → List ℕ → List ℕ
framed tag contents = tag ∷ (length_octets (length contents) ++ contents)

-- The contents of a primitive element are its octets, those of a constructed one the encodings of
-- its kids in order.
abbrev mutual
  pub encoding : DerElement → List ℕ
  encoding (Primitive tag content) = framed tag content
  encoding (Constructed tag kids) = framed tag (encodings kids)

  pub encodings : DerElements → List ℕ
  encodings Nil = []
  encodings (Cons kid kids) = encoding kid ++ encodings kids

-- A tag is one octet, not 0 (X.690 8.1.5) and of a number below 31 (8.1.2.2).
abbrev pub IsTag : ℕ → Type 0
IsTag tag = (tag < 256) × (tag ≢ 0) × (tag % 32 ≢ 31)

-- Bit 6 of the identifier octet says whether an element is constructed (X.690 8.1.2.5).
abbrev pub form_bit : ℕ → ℕ
form_bit tag = tag / 32 % 2

-- each tag is valid, and has the form of its element
abbrev mutual
  pub IsWellFormed : DerElement → Type 0
  IsWellFormed (Primitive tag content) = IsTag tag × (form_bit tag ≡ 0)
  IsWellFormed (Constructed tag kids) = IsTag tag × (form_bit tag ≡ 1) × AreWellFormed kids

  pub AreWellFormed : DerElements → Type 0
  AreWellFormed Nil = Unit {0}
  AreWellFormed (Cons kid kids) = IsWellFormed kid × AreWellFormed kids

-- A primitive element and an empty constructed one have nesting 1, any other one more than its
-- deepest kid.
abbrev mutual
  pub nesting : DerElement → ℕ
  nesting (Primitive tag content) = 1
  nesting (Constructed tag kids) = deepest kids + 1

  pub deepest : DerElements → ℕ
  deepest Nil = 0
  deepest (Cons kid kids) = max (nesting kid) (deepest kids)

-- no contents have more than 4,294,967,295 octets
abbrev mutual
  pub IsShort : DerElement → Type 0
  IsShort (Primitive tag content) = length content < 2 ^ 32
  IsShort (Constructed tag kids) = (length (encodings kids) < 2 ^ 32) × AreShort kids

  pub AreShort : DerElements → Type 0
  AreShort Nil = Unit {0}
  AreShort (Cons kid kids) = IsShort kid × AreShort kids

-- An element that is read and written here: well formed, of at most so many levels, and with
-- contents whose length has at most four octets.
pub record IsDerWithin (levels : ℕ) (element : DerElement) : Type 0 where
  pub formed : IsWellFormed element
  pub nested : nesting element ≤ levels
  pub short : IsShort element

-- the most levels of an element, itself included
abbrev pub most_levels : ℕ
most_levels = 64

-- Well formed and within limits: at most so many levels.
abbrev pub IsDer : DerElement → Type 0
IsDer element = IsDerWithin most_levels element

-- The octets are the encoding of the element and at most seven zeros after it, the padding of a
-- WIN_CERTIFICATE.
abbrev pub IsPaddedEncoding : List ℕ → DerElement → Type 0
IsPaddedEncoding octets element =
    IsDer element × (zeros : ℕ) × (zeros ≤ 7) × (octets ≡ encoding element ++ replicate zeros 0)
