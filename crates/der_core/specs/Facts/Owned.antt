-- That octets encode an element has at most one proof, and owned elements have codes.
use Rattle.std.specs.Prelude.{◌≡◌, ℕ, List, [], ◌++◌}
use Rattle.std.specs.Coded.{×_prop}
use Rattle.std.proofs.Common.{sym, ap, subst, ◌∙◌}
use mathlib.Core.HLevel.{Σ_prop_path}
use base.Stored.{Coded}
use Rattle.der_core.specs.DerElement.{DerElement}
use Rattle.der_core.specs.Encoding.{encoding, IsDer, most_levels}
use Rattle.der_core.specs.Owned.{KeptElement, IsKept, Kept}
use Rattle.der_core.specs.Facts.Codes.{stored, stored_inj}
use Rattle.der_core.specs.Facts.Fronts.{fronts}
use Rattle.der_core.specs.Facts.InBounds.{octets-set, IsDerWithin-prop}

IsKept-prop : (octets : List ℕ) (element : DerElement) → IsProp (IsKept octets element)
IsKept-prop octets element = ×_prop (IsDerWithin-prop most_levels element) (octets-set octets (encoding element))

-- octets are the encoding of at most one element within limits
pub same_encoded : (a b : DerElement) → IsDer a → IsDer b → encoding a ≡ encoding b → a ≡ b
same_encoded a b der der' same = (fronts a b [] [] der.formed der'.formed der.short der'.short (ap (λ o. o ++ []) same)).0

pub Kept-prop : (octets : List ℕ) → IsProp (Kept octets)
Kept-prop octets a b = Σ_prop_path (IsKept-prop octets) (same_encoded a.0 b.0 a.1.0 b.1.0 (sym a.1.1 ∙ b.1.1))

abbrev kept_of : (element : DerElement) → IsDer element → KeptElement
kept_of element der = record { element = element; der = der }

pub same_kept : (a b : KeptElement) → a.element ≡ b.element → a ≡ b
same_kept a b e =
    subst (λ (x : DerElement). (h : IsDer x) → a ≡ kept_of x h) e (λ h. ap (kept_of a.element) (IsDerWithin-prop most_levels a.element a.der h)) b.der

-- owned octets are of one element
pub one_kept : (octets : List ℕ) (a b : DerElement) → IsKept octets a → IsKept octets b → a ≡ b
one_kept octets a b p q = same_encoded a b p.0 q.0 (sym p.1 ∙ q.1)

abbrev pub coded_kept : Coded KeptElement
coded_kept = record { code = λ kept. stored kept.element; inj = λ a b e. same_kept a b (stored_inj a.element b.element e) }
