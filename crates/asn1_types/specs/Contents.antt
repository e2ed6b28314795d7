-- Reading contents octets as a value.
use Rattle.der_core.specs.Causes.{NoFault, Refuses}
use Rattle.der_core.specs.declared.error.DerError.{DerError}

-- The error is `Shape`, for contents octets that encode no value, or out of memory.
abbrev pub RefusesContents : Type 0 → DerError → Type 0
RefusesContents formed = Refuses NoFault (formed → ⊥) ⊥ ⊥
