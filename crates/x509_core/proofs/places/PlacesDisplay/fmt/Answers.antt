use Rattle.name_types.proofs.Joined.{join_whole}
use Rattle.x509_core.specs.PlacesText.{comma}
use Rattle.x509_core.proofs.places.PlacesDisplay.fmt.Goals as goal
use Rattle.std.proofs.Common.{◌∙◌, sym, rules}
use Rattle.std.specs.Prelude.{decimal}
use Rattle.std.proofs.Output.{has_written_append, has_written_of_eq}

pub returns-clause-writes : goal.returns-clause-writes
returns-clause-writes g c =
    λ plain _.
    let first = c.in_ok-write.ensures.writes plain (search rules) in
    let others = c.loop-place.invariant first.plain in
    has_written_of_eq _ _ _ _ _ (join_whole comma decimal _ _ _ _ (sym c.as_slice.ensures ∙ c.in-Some.ensures.cases.0) c.loop-place-test.false)
    (has_written_append _ _ _ _ _ _ first others)
