-- The head of an element: the tests of its identifier and length in order, and the first that fails
-- (X.690 8.1.2, 8.1.3, 10.1).
use Rattle.std.specs.Prelude.{◌≡◌, ℕ, ◌+◌, ◌*◌, ◌%◌, ◌^◌, ◌<◌, nat_lt, ◌==◌, if◌then◌else◌, List}
use Rattle.std.specs.Prelude.{[], ◌∷◌, ◌++◌, length, take, drop, slice_index, Result, Ok, Err}
use Rattle.der_core.specs.Encoding.{framed, IsTag, most_levels}
use Rattle.der_core.specs.declared.fault.DerFault.{DerFault}
use Rattle.der_core.specs.declared.fault.DerFault.TheVariants.{Truncated, ReservedTag, HighTag, Indefinite, NotShortest, WideLength, TooDeep, Overrun}

-- Each number is an octet.
abbrev pub IsOctets : List ℕ → Type 0
IsOctets octets = (i : ℕ) → slice_index octets i < 256

-- the next step, if a step didn't fail
infixl 10 ◌>>=◌
abbrev pub ◌>>=◌ : {A B : Type 0} → Result A DerFault → (A → Result B DerFault) → Result B DerFault
(Ok x) >>= f = f x
(Err fault) >>= f = Err fault

-- Octets are needed past the bound: the outermost element, which has all levels left, is truncated;
-- an inner one overruns the contents that it is in.
abbrev pub past_bound : ℕ → DerFault
past_bound levels = if levels == most_levels then Truncated else Overrun

-- the number that octets encode, the most significant first, after digits of value n (X.690
-- 8.1.3.5)
abbrev pub number_from : ℕ → List ℕ → ℕ
number_from n [] = n
number_from n (octet ∷ octets) = number_from (n * 256 + octet) octets

-- A length in so many subsequent octets must need that many: it is at least the least such number
-- (X.690 10.1).
unfoldable pub long_length_at : ℕ → ℕ → DerFault → List ℕ → Result (ℕ × List ℕ) DerFault
long_length_at count least past octets =
    if nat_lt (length octets) count then Err past
    else (if nat_lt (number_from 0 (take count octets)) least then Err NotShortest
    else Ok (number_from 0 (take count octets), drop count octets))

-- the length that octets begin with, and the octets after it (X.690 8.1.3)
unfoldable pub length_at : DerFault → List ℕ → Result (ℕ × List ℕ) DerFault
length_at past [] = Err past
length_at past (first ∷ rest) =
    if nat_lt first 128 then Ok (first, rest)
    else (if first == 128 then Err Indefinite
    else (if first == 129 then long_length_at 1 (2 ^ 7) past rest
    else (if first == 130 then long_length_at 2 (2 ^ 8) past rest
    else (if first == 131 then long_length_at 3 (2 ^ 16) past rest
    else (if first == 132 then long_length_at 4 (2 ^ 24) past rest
    else Err WideLength)))))

-- contents of the length that octets begin with, and the octets after them
unfoldable pub contents_at : DerFault → List ℕ → Result (List ℕ × List ℕ) DerFault
contents_at past octets = do
  n ← length_at past octets
  if nat_lt (length n.1) n.0 then Err past else Ok (take n.0 n.1, drop n.0 n.1)

-- The tag, the contents and the octets after an element, given its octets up to its bound and how
-- many levels are left.
unfoldable pub head_at : ℕ → List ℕ → Result (ℕ × List ℕ × List ℕ) DerFault
head_at levels [] = Err (past_bound levels)
head_at levels (tag ∷ octets) =
    if tag == 0 then Err ReservedTag
    else (if tag % 32 == 31 then Err HighTag
    else (if levels == 0 then Err TooDeep
    else (contents_at (past_bound levels) octets >>= λ c. Ok (tag, c.0, c.1))))

-- Octets begin with a length that passes all tests.
abbrev pub BeginsWithLength : List ℕ → Type 0
BeginsWithLength octets = (n : ℕ) × (rest : List ℕ) × (length_at Truncated octets ≡ Ok (n, rest))

-- Octets begin with a head that passes all tests.
abbrev pub BeginsWithHead : List ℕ → Type 0
BeginsWithHead octets =
    (tag : ℕ) × (contents : List ℕ) × (rest : List ℕ)
    × (head_at most_levels octets ≡ Ok (tag, contents, rest))

-- Octets begin with a tag, the shortest form of a length, and contents of that length, and a level
-- is left.
pub record HasHead (levels : ℕ) (octets : List ℕ) (tag : ℕ) (contents rest : List ℕ) : Type 0 where
  pub parts : octets ≡ framed tag contents ++ rest
  pub is_tag : IsTag tag
  pub short : length contents < 2 ^ 32
  pub some : 0 < levels
