-- Values are compared by their encodings.
use Rattle.std.specs.Prelude.{Bool, bytes_eq}
use Rattle.std.specs.Ordering.{on}
use Rattle.der_core.specs.DerElement.{DerElement}
use Rattle.der_core.specs.Encoding.{encoding}

-- whether the same octets are written for two values
abbrev pub same_octets : {X : Type 0} → (X → DerElement) → X → X → Bool
same_octets written = on (λ value. encoding (written value)) bytes_eq
