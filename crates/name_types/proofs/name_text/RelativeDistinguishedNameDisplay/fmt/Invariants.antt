use Rattle.name_types.specs.NameText.{attribute_text, plus}
use Rattle.name_types.proofs.name_text.RelativeDistinguishedNameDisplay.fmt.Given as goal
use Rattle.std.proofs.Common.{◌∷◌, take}
use Rattle.std.specs.Prelude.{flat_map}
use Rattle.std.specs.Fmt.{HasWritten, IsPlainFormatter}

abbrev pub invariant-loop-member : goal.invariant-loop-member
invariant-loop-member g l =
    IsPlainFormatter l.initial.f
    → HasWritten g.W.Write.write_str_gives l.initial.f (flat_map (λ member. plus ∷ attribute_text member) (take l.member-index l.others)) l.f
