-- BOOLEAN OPTIONAL (X.690 8.2).
use Rattle.std.specs.Prelude.{◌≡◌, Bool, List, [], ◌∷◌, ◌++◌, Option, Some, None}
use Rattle.der_core.specs.DerElement.{DerElement}
use Rattle.der_core.specs.Default.{IsBoolean, boolean}
use Rattle.der_core.specs.Structure.{BeginsOtherwise}

-- BOOLEAN OPTIONAL as it is written: a FALSE that is present is written
abbrev pub optional_boolean : Option Bool → List DerElement
optional_boolean None = []
optional_boolean (Some b) = boolean b ∷ []

-- BOOLEAN OPTIONAL as it is read: no element, or one
abbrev pub IsOptionalBoolean : List DerElement → Option Bool → Type 0
IsOptionalBoolean flag None = flag ≡ []
IsOptionalBoolean flag (Some b) = (kid : DerElement) × (flag ≡ kid ∷ []) × IsBoolean kid b

-- The flag, which may be absent, was taken off the beginning of the elements.
pub record TakesBoolean (all : List DerElement) (b : Option Bool)
    (rest : List DerElement) : Type 0 where
  pub flag : List DerElement
  pub is : IsOptionalBoolean flag b
  pub are : all ≡ flag ++ rest
  pub once : flag ≡ [] → BeginsOtherwise 0x01 rest
