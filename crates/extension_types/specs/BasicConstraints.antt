-- BasicConstraints ::= SEQUENCE { cA BOOLEAN DEFAULT FALSE, pathLenConstraint INTEGER (0..MAX)
-- OPTIONAL } (RFC 5280 4.2.1.9). The value says whether the flag is present, also for FALSE. A path
-- length is at most 255 here.
use Rattle.std.specs.Prelude.{◌≡◌, ◌≢◌, ℕ, nat_lt, Bool, true, if◌then◌else◌, List, [], ◌∷◌, ◌++◌, Option, Some, None}
use Rattle.asn1_types.specs.Elements.{integer_of}
use Rattle.der_core.specs.DerElement.{DerElement, Primitive}
use Rattle.der_core.specs.Elements.{sequence}
use Rattle.extension_types.specs.Boolean.{optional_boolean, IsOptionalBoolean}
use Rattle.extension_types.specs.declared.basic_constraints.BasicConstraints.{BasicConstraints}

-- INTEGER of a number below 256 with the shortest contents: the first bit is the sign, so a zero
-- octet precedes an octet of 80 or more (X.690 8.3.2, 8.3.3)
abbrev pub small_integer : ℕ → DerElement
small_integer number = integer_of (if nat_lt number 128 then number ∷ [] else 0 ∷ number ∷ [])

-- such an INTEGER, or none
abbrev pub optional_integer : Option ℕ → List DerElement
optional_integer None = []
optional_integer (Some number) = small_integer number ∷ []

-- the constraints with this flag and this path length
abbrev pub constraints_with : Option Bool → Option ℕ → BasicConstraints
constraints_with ca pathlen = record { ca = ca; pathlen = pathlen }

-- the element that is written for constraints
abbrev pub basic_constraints : BasicConstraints → DerElement
basic_constraints b = sequence (optional_boolean b.ca ++ optional_integer b.pathlen)

-- The element encodes the constraints: TRUE may be any octet but 00.
pub record IsBasicConstraints (element : DerElement) (b : BasicConstraints) : Type 0 where
  pub flag : List DerElement
  pub flagged : IsOptionalBoolean flag b.ca
  pub is : element ≡ sequence (flag ++ optional_integer b.pathlen)

-- The element encodes the constraints by a TRUE in another octet than FF, against X.690 11.1.
pub record HasOtherTrue (element : DerElement) (b : BasicConstraints) : Type 0 where
  pub octet : ℕ
  pub other : octet ≢ 0xFF
  pub nonzero : octet ≢ 0
  pub given : b.ca ≡ Some true
  pub is : element ≡ sequence (Primitive 0x01 (octet ∷ []) ∷ optional_integer b.pathlen)

-- The first of the elements isn't such an INTEGER.
pub record HasBadLength (all : List DerElement) : Type 0 where
  pub kid : DerElement
  pub rest : List DerElement
  pub are : all ≡ kid ∷ rest
  pub none : (number : ℕ) → kid ≢ small_integer number

-- The INTEGER was taken off the beginning of the elements, or there are none.
pub record TakesLength (all : List DerElement) (number : Option ℕ)
    (rest : List DerElement) : Type 0 where
  pub are : all ≡ optional_integer number ++ rest
  pub last : number ≡ None → rest ≡ []

-- whether the subject is a CA, if the flag is present
abbrev pub ca_of : BasicConstraints → Option Bool
ca_of b = b.ca

-- the path length, if there is one
abbrev pub pathlen_of : BasicConstraints → Option ℕ
pathlen_of b = b.pathlen
