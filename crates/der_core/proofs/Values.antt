-- What is read of octets that hold one element.
use Rattle.std.proofs.Common.{◌≡◌, ℕ, List, Result, Ok, Err, MatchResult, subst}
use Rattle.der_core.specs.declared.error.DerError.{DerError}
use Rattle.der_core.specs.declared.error.DerError.TheVariants as errors
use Rattle.der_core.specs.DerElement.{DerElement}
use Rattle.der_core.specs.Encoding.{encoding, IsDer}
use Rattle.der_core.specs.Refusals.{RefusesShape, RefusesOctets}
use Rattle.der_core.specs.Structure.{IsWithin}
use Rattle.der_core.proofs.Exact.{whole_once}
use Rattle.der_core.proofs.Parts.{refuses_as}

-- the value in the octets is that of the element that they encode
pub within_here : {X : Type 0} (spells : DerElement → X → Type 0) (octets : List ℕ) (element : DerElement) (value : X) → IsDer element
    → octets ≡ encoding element → IsWithin spells octets value → spells element value
within_here spells octets element value der is within =
    subst (λ e. spells e value) (whole_once octets within.element element within.der der within.encoded is) within.spelled

-- what is read of the element is read of the octets
pub read_in_octets : {X : Type 0} (spells : DerElement → X → Type 0) (octets : List ℕ) (element : DerElement) → IsDer element → octets ≡ encoding element
    → (r : Result X DerError) → MatchResult r (spells element) (RefusesShape (spells element))
    → MatchResult r (IsWithin spells octets) (RefusesOctets spells octets)
read_in_octets spells octets element der is (Ok value) spelled = record { element = element; der = der; encoded = is; spelled = spelled }
read_in_octets spells octets element der is (Err errors.Shape) none = record { element = element; der = der; encoded = is; none = none }
read_in_octets spells octets element der is (Err errors.Memory) none = tt
read_in_octets spells octets element der is (Err (errors.Malformed m)) none = absurd none
read_in_octets spells octets element der is (Err errors.TooDeep) none = absurd none
read_in_octets spells octets element der is (Err errors.TooLong) none = absurd none

-- what is read of the element is read of the string that holds it
pub read_in_string : {X : Type 0} (spells : DerElement → X → Type 0) (octets : List ℕ) (element : DerElement) → IsDer element → octets ≡ encoding element
    → (r : Result X DerError) → MatchResult r (spells element) (RefusesShape (spells element))
    → MatchResult r (IsWithin spells octets) (RefusesShape (IsWithin spells octets))
read_in_string spells octets element der is (Ok value) spelled = record { element = element; der = der; encoded = is; spelled = spelled }
read_in_string spells octets element der is (Err e) refused =
    refuses_as (spells element) (IsWithin spells octets) e (λ none value within. none value (within_here spells octets element value der is within)) refused
