-- Octets that encode a value are read as that value, or memory runs out.
use Rattle.std.proofs.Common.{◌≡◌, ℕ, List, Result, Ok, Err, MatchResult, refl, sym, subst}
use Rattle.der_core.specs.DerElement.{DerElement}
use Rattle.der_core.specs.Encoding.{encoding, IsDer}
use Rattle.der_core.specs.Refusals.{RefusesOctets}
use Rattle.der_core.specs.Structure.{IsWithin}
use Rattle.der_core.specs.declared.error.DerError.{DerError}
use Rattle.der_core.specs.declared.error.DerError.TheVariants as errors
use Rattle.der_core.proofs.Exact.{no_fault_where_whole, whole_once}

-- octets of an element that doesn't encode no value are refused only where memory runs out
pub only_memory : {X : Type 0} (spells : DerElement → X → Type 0) (octets : List ℕ) (element : DerElement) (e : DerError) → IsDer element
    → octets ≡ encoding element
    → (((value : X) → spells element value → ⊥) → ⊥) → RefusesOctets spells octets e → e ≡ errors.Memory
only_memory spells octets element (errors.Malformed m) der is some refused = absurd (no_fault_where_whole octets element m.at m.fault der is refused)
only_memory spells octets element errors.Shape der is some refused =
    let same = whole_once octets refused.element element refused.der der refused.encoded is in
    absurd (some (λ value spelled. refused.none value (subst (λ x. spells x value) (sym same) spelled)))
only_memory spells octets element errors.TooDeep der is some refused = absurd refused
only_memory spells octets element errors.TooLong der is some refused = absurd refused
only_memory spells octets element errors.Memory der is some refused = refl

pub reread : {X : Type 0} (spells : DerElement → X → Type 0) → ((element : DerElement) (a b : X) → spells element a → spells element b → a ≡ b)
    → (octets : List ℕ) (value : X) (read : Result X DerError)
    → IsWithin spells octets value → MatchResult read (IsWithin spells octets) (RefusesOctets spells octets)
    → MatchResult read (λ again. again ≡ value) (λ e. e ≡ errors.Memory)
reread spells once octets value (Ok again) is found =
    let same = whole_once octets found.element is.element found.der is.der found.encoded is.encoded in
    once is.element again value (subst (λ x. spells x again) same found.spelled) is.spelled
reread spells once octets value (Err e) is refused = only_memory spells octets is.element e is.der is.encoded (λ none. none value is.spelled) refused
