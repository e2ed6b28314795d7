use Rattle.std.proofs.Common.{ℕ, List, chars, sym, subst}
use Rattle.cms_types.specs.Units.{AreUnits}
use Rattle.cms_types.proofs.Characters.{even_units}
use Rattle.cms_types.proofs.opus_info.spc_string.SpcString.from_text.Goals as goal

pub invariant_of-result : goal.invariant_of-result
invariant_of-result c = record { whole = subst (λ (xs : List ℕ). AreUnits xs) (sym c.in_ok-units_of.ensures) (even_units (chars c.args.text.now)) }
