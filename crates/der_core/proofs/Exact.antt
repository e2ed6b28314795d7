-- Octets that are one element, and what others are refused for.
use Rattle.std.proofs.Common.{◌≡◌, ℕ, List, length, drop, sym, ap, ◌∙◌, arith, inl, inr}
use Rattle.std.proofs.lemmas.List.{take_all}
use Rattle.der_core.specs.declared.error.DerError.{DerError}
use Rattle.der_core.specs.declared.error.DerError.TheVariants as errors
use Rattle.der_core.specs.declared.fault.DerFault.{DerFault}
use Rattle.der_core.specs.declared.fault.Malformed.{Malformed}
use Rattle.der_core.specs.DerElement.{DerElement}
use Rattle.der_core.specs.Encoding.{encoding, IsDer}
use Rattle.der_core.specs.Fault.{IsFirstFault}
use Rattle.der_core.specs.Reading.{IsFirst, IsExactFault, RefusesMalformed}
use Rattle.der_core.specs.Writing.{RefusesToWrite}
use Rattle.der_core.proofs.Elements.{first_parts, first_once}
use Rattle.der_core.proofs.Faults.{same_malformed, no_fault_where_read, refused_as}

pub whole_first : (octets : List ℕ) (a : DerElement) → IsDer a → octets ≡ encoding a → IsFirst octets a (length octets)
whole_first octets a der same = record { der = der; many = ap length same; front = take_all (length octets) octets (omega arith) ∙ same }

pub no_fault_where_first : (octets : List ℕ) (a : DerElement) (n at : ℕ) (fault : DerFault) → IsFirst octets a n → IsFirstFault octets at fault → ⊥
no_fault_where_first octets a n at fault first there = no_fault_where_read octets (drop n octets) a at fault first.der (first_parts octets a n first) there

pub whole_once : (octets : List ℕ) (a b : DerElement) → IsDer a → IsDer b → octets ≡ encoding a → octets ≡ encoding b → a ≡ b
whole_once octets a b der der' is is' = (first_once octets a b (length octets) (length octets) (whole_first octets a der is) (whole_first octets b der' is')).0

-- octets that are one element have no fault
pub no_fault_where_whole : (octets : List ℕ) (a : DerElement) (at : ℕ) (fault : DerFault) → IsDer a → octets ≡ encoding a → IsExactFault octets at fault → ⊥
no_fault_where_whole octets a at fault der is (inl there) = no_fault_where_first octets a (length octets) at fault (whole_first octets a der is) there
no_fault_where_whole octets a at fault der is (inr trailing) =
    omega (arith, (first_once octets a trailing.1.element (length octets) at (whole_first octets a der is) trailing.1.first).1, trailing.1.more)

-- octets have at most one such fault, so the one reported is it
pub refused_exactly : (octets : List ℕ) (at : ℕ) (fault : DerFault) (m : Malformed) → IsExactFault octets at fault → IsExactFault octets m.at m.fault
    → m ≡ record { at = at; fault = fault }
refused_exactly octets at fault m (inl there) (inl here) = refused_as octets at fault m there here
refused_exactly octets at fault m (inl there) (inr trailing) = absurd (no_fault_where_first octets trailing.1.element m.at at fault trailing.1.first there)
refused_exactly octets at fault m (inr trailing) (inl here) = absurd (no_fault_where_first octets trailing.1.element at m.at m.fault trailing.1.first here)
refused_exactly octets at fault m (inr there) (inr here) =
    same_malformed m at fault (first_once octets here.1.element there.1.element m.at at here.1.first there.1.first).1 (here.0 ∙ sym there.0)

-- one element has no fault to be refused for
pub refuses_none : (octets : List ℕ) (a : DerElement) (e : DerError) → IsDer a → octets ≡ encoding a → RefusesMalformed (IsExactFault octets) e
    → RefusesToWrite a e
refuses_none octets a (errors.Malformed m) der is fault = absurd (no_fault_where_whole octets a m.at m.fault der is fault)
refuses_none octets a errors.Memory der is refused = tt
refuses_none octets a errors.Shape der is refused = absurd refused
refuses_none octets a errors.TooDeep der is refused = absurd refused
refuses_none octets a errors.TooLong der is refused = absurd refused
