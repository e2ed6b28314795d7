-- What a refusal says: what holds for each error that is returned. Out of memory may come at any
-- time and says nothing.
use Rattle.std.specs.Prelude.{ℕ, ⊤}
use Rattle.der_core.specs.declared.error.DerError.{DerError}
use Rattle.der_core.specs.declared.error.DerError.TheVariants as errors
use Rattle.der_core.specs.declared.fault.DerFault.{DerFault}

-- No octets are refused for a fault.
abbrev pub NoFault : ℕ → DerFault → Type 0
NoFault at fault = ⊥

-- Octets are refused for a fault at an offset; a value for its shape, its depth or its length.
abbrev pub Refuses : (Fault : ℕ → DerFault → Type 0) → (Shapeless TooDeep TooLong : Type 0)
    → DerError → Type 0
Refuses Fault Shapeless TooDeep TooLong (errors.Malformed m) = Fault m.at m.fault
Refuses Fault Shapeless TooDeep TooLong errors.Shape = Shapeless
Refuses Fault Shapeless TooDeep TooLong errors.TooDeep = TooDeep
Refuses Fault Shapeless TooDeep TooLong errors.TooLong = TooLong
Refuses Fault Shapeless TooDeep TooLong errors.Memory = ⊤
