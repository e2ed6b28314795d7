use Rattle.std.proofs.Common.{◌≡◌, ℕ, ◌+◌, ◌*◌, ◌≤◌, length}
use Rattle.der_core.specs.Reading.{HasElementsWithin}
use Rattle.der_core.specs.declared.fault.DerFault.{DerFault}
use Rattle.der_core.specs.Facts.InnerFault.{KidsFault}
use Rattle.der_core.proofs.testing.+testing.Given as goal

abbrev pub decreases-after_element : goal.decreases-after_element
decreases-after_element l = 2 * l.levels

abbrev pub decreases-test_elements : goal.decreases-test_elements
decreases-test_elements l = 2 * l.levels + 1

-- If the rest are elements, so are the octets, and a fault of the rest is one of the octets.
abbrev pub invariant-test_elements-loop-rest : goal.invariant-test_elements-loop-rest
invariant-test_elements-loop-rest l = record {
  shorter : length l.rest ≤ length l.octets;
  elements : HasElementsWithin l.levels l.rest → HasElementsWithin l.levels l.octets;
  goes_on : (k n : ℕ) (fault : DerFault) → n + length l.rest ≡ k + length l.octets → KidsFault l.levels l.rest k fault → KidsFault l.levels l.octets n fault;
}

abbrev pub decreases-test_elements-loop-rest : goal.decreases-test_elements-loop-rest
decreases-test_elements-loop-rest l = length l.rest
