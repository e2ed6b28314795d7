use Rattle.name_types.specs.NameText.{set_text, comma}
use Rattle.name_types.proofs.Joined.{join_whole}
use Rattle.name_types.proofs.name_text.NameDisplay.fmt.Goals as goal
use Rattle.std.proofs.Common.{◌∙◌, sym, rules}
use Rattle.std.proofs.Output.{has_written_append, has_written_of_eq}

pub returns-clause-writes : goal.returns-clause-writes
returns-clause-writes g c =
    λ plain _.
    let first = c.fmt.ensures.writes plain (search rules) in
    let others = c.loop-set.invariant first.plain in
    has_written_of_eq _ _ _ _ _ (join_whole comma set_text _ _ _ _ (sym c.as_slice.ensures ∙ c.in-Some.ensures.cases.0) c.loop-set-test.false)
    (has_written_append _ _ _ _ _ _ first others)
