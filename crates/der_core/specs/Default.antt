-- BOOLEAN and BOOLEAN DEFAULT FALSE (X.690 8.2, 11.5).
use Rattle.std.specs.Prelude.{◌≡◌, ℕ, ◌==◌, Bool, false, not, if◌then◌else◌, List, [], ◌∷◌, ◌++◌}
use Rattle.der_core.specs.DerElement.{DerElement, Primitive, tag_of}
use Rattle.der_core.specs.Structure.{BeginsOtherwise}

-- BOOLEAN: one octet, not zero for TRUE (X.690 8.2.2). A reader doesn't require FF for TRUE (X.690
-- 11.1).
abbrev pub IsBoolean : DerElement → Bool → Type 0
IsBoolean element b = (octet : ℕ) × (element ≡ Primitive 0x01 (octet ∷ [])) × (b ≡ not (octet == 0))

-- BOOLEAN as it is written: one octet, 00 for FALSE (X.690 8.2.2) and FF for TRUE (X.690 11.1)
abbrev pub boolean : Bool → DerElement
boolean b = Primitive 0x01 ((if b then 0xFF else 0x00) ∷ [])

-- BOOLEAN DEFAULT FALSE as it is written: FALSE is absent (X.690 11.5)
abbrev pub default_false : Bool → List DerElement
default_false b = if b then boolean b ∷ [] else []

-- no element for FALSE, or one for either: a reader doesn't require FALSE to be absent (X.690 11.5)
abbrev pub IsDefaultFalse : List DerElement → Bool → Type 0
IsDefaultFalse [] b = b ≡ false
IsDefaultFalse (kid ∷ []) b = IsBoolean kid b
IsDefaultFalse (kid ∷ more ∷ kids) b = ⊥

-- The flag was taken off the beginning of the elements.
pub record TakesDefault (all : List DerElement) (b : Bool) (rest : List DerElement) : Type 0 where
  pub flag : List DerElement
  pub is : IsDefaultFalse flag b
  pub are : all ≡ flag ++ rest
  pub once : flag ≡ [] → BeginsOtherwise 0x01 rest

-- The first element has the tag of a BOOLEAN, but encodes none.
pub record HasBadFlag (all : List DerElement) : Type 0 where
  pub kid : DerElement
  pub rest : List DerElement
  pub are : all ≡ kid ∷ rest
  pub tagged : tag_of kid ≡ 0x01
  pub none : (b : Bool) → IsBoolean kid b → ⊥
