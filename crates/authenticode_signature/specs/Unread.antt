-- Why octets aren't read as signed data with at most seven zeros after it.
use Rattle.std.specs.Prelude.{ℕ, List}
use Rattle.der_core.specs.Rules.{OrMemory}
use Rattle.der_core.specs.declared.error.DerError.{DerError}
use Rattle.der_core.specs.declared.error.DerError.TheVariants as der
use Rattle.authenticode_core.specs.Basic.{IsNoSignedData}

-- octets are refused for what they are, or out of memory
abbrev pub RefusesPadded : List ℕ → DerError → Type 0
RefusesPadded octets = OrMemory der.Memory (IsNoSignedData octets)
