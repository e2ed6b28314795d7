use Rattle.name_types.specs.NameText.{set_text, comma}
use Rattle.name_types.proofs.name_text.NameDisplay.fmt.Given as goal
use Rattle.std.proofs.Common.{◌∷◌, take}
use Rattle.std.specs.Prelude.{flat_map}
use Rattle.std.specs.Fmt.{HasWritten, IsPlainFormatter}

abbrev pub invariant-loop-set : goal.invariant-loop-set
invariant-loop-set g l =
    IsPlainFormatter l.initial.f
    → HasWritten g.W.Write.write_str_gives l.initial.f (flat_map (λ set. comma ∷ set_text set) (take l.set-index l.others)) l.f
