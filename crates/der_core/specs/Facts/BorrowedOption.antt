-- A borrowed element can be owned, and an owned one can be absent.
use Rattle.std.specs.Prelude.{◌≡◌, Option, Some, None, refl, option_to_list}
use Rattle.std.proofs.Common.{ap}
use Rattle.der_core.specs.Owned.{KeptElement}
use Rattle.der_core.specs.BorrowedOption.{at_option, kept_option}
use Rattle.der_core.specs.Facts.Owned.{same_kept}
use Rattle.der_core.specs.declared.elem.Elem.{Elem}

pub keep_option : (elem : Option Elem) → (kept : Option KeptElement) × (at_option elem ≡ kept_option kept)
keep_option None = (None, refl)
keep_option (Some elem) = (Some (record { element = elem.is.0; der = elem.is.1.0 }), refl)

pub kept_option_once : (a b : Option KeptElement) → option_to_list (kept_option a) ≡ option_to_list (kept_option b) → a ≡ b
kept_option_once None None e = refl
kept_option_once None (Some y) e = absurd cc
kept_option_once (Some x) None e = absurd cc
kept_option_once (Some x) (Some y) e = let same : x.element ≡ y.element = cc in ap Some (same_kept x y same)
