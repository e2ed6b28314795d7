-- Values are the same if their parts are.
use Rattle.std.proofs.Common.{◌≡◌, ◌↔◌, IsTrue, Bool, sym, ◌∙◌, ap}
use Rattle.der_core.specs.Owned.{KeptElement}
use Rattle.name_types.specs.Facts.Names.{same_other}
use Rattle.name_types.specs.declared.other_value.OtherValue.{OtherValue}

-- other values are the same if their elements are
pub others_same : (a b : OtherValue) (x y : KeptElement) (t : Bool) → x ≡ a.element → y ≡ b.element → (IsTrue t ↔ (x ≡ y)) → IsTrue t ↔ (a ≡ b)
others_same a b x y t p q same =
    (λ w. same_other a b (ap (λ (k : KeptElement). k.element) (sym p ∙ same.0 w ∙ q)), λ e. same.1 (p ∙ ap (λ (v : OtherValue). v.element) e ∙ sym q))
