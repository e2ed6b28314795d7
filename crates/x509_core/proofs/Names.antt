-- Elements within limits are the same where their octets are.
use Rattle.std.proofs.Common.{◌≡◌, ◌↔◌, IsTrue, Bool, ℕ, List, sym, ap, ◌∙◌}
use Rattle.der_core.specs.DerElement.{DerElement}
use Rattle.der_core.specs.Encoding.{encoding, IsDer}
use Rattle.der_core.specs.Facts.Owned.{same_encoded}

pub same_elements : (a b : DerElement) (x y : List ℕ) (t : Bool) → IsDer a → IsDer b → x ≡ encoding a → y ≡ encoding b → (IsTrue t ↔ (x ≡ y))
    → IsTrue t ↔ (a ≡ b)
same_elements a b x y t der der' ex ey test = (
  λ w. same_encoded a b der der' (sym ex ∙ test.0 w ∙ ey),
  λ e. test.1 (ex ∙ ap encoding e ∙ sym ey),
)
