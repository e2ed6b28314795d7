use Rattle.x509_core.specs.PlacesText.{comma}
use Rattle.x509_core.proofs.places.PlacesDisplay.fmt.Given as goal
use Rattle.std.proofs.Common.{◌∷◌, take}
use Rattle.std.specs.Prelude.{decimal, flat_map}
use Rattle.std.specs.Fmt.{HasWritten, IsPlainFormatter}

abbrev pub invariant-loop-place : goal.invariant-loop-place
invariant-loop-place g l =
    IsPlainFormatter l.initial.f
    → HasWritten g.W.Write.write_str_gives l.initial.f (flat_map (λ place. comma ∷ decimal place) (take l.place-index l.others)) l.f
