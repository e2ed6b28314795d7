use Rattle.std.proofs.Common.{MatchResult, Result, Ok, Err, length, ℕ, List}
use Rattle.der_core.specs.declared.elem.Elem.{Elem}
use Rattle.der_core.specs.declared.fault.Malformed.{Malformed}
use Rattle.der_core.specs.Fault.{IsFirstFault}
use Rattle.der_core.specs.Reading.{IsFirst, IsFaultFrom}
use Rattle.der_core.proofs.Faults.{from_beginning}
use Rattle.der_core.proofs.testing.first_of.Goals as goal

-- counted from the beginning
from_there : (octets : List ℕ) (r : Result Elem Malformed) → MatchResult r (λ elem. IsFirst octets elem.is.0 (length elem.whole.now))
    (IsFaultFrom 0 (IsFirstFault octets)) → MatchResult r (λ elem. IsFirst octets elem.is.0 (length elem.whole.now)) (λ m. IsFirstFault octets m.at m.fault)
from_there octets (Ok elem) found = found
from_there octets (Err m) refused = from_beginning (IsFirstFault octets) m refused

pub returns : goal.returns
returns c = from_there c.args.bytes.now c.first_from.result c.first_from.ensures
