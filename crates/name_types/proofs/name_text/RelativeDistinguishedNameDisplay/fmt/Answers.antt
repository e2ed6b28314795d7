use Rattle.name_types.specs.NameText.{attribute_text, plus}
use Rattle.name_types.proofs.Joined.{join_whole}
use Rattle.name_types.proofs.name_text.RelativeDistinguishedNameDisplay.fmt.Goals as goal
use Rattle.std.proofs.Common.{◌∙◌, sym, rules}
use Rattle.std.proofs.Output.{has_written_append, has_written_of_eq}

pub returns-clause-writes : goal.returns-clause-writes
returns-clause-writes g c =
    λ plain _.
    let first = c.fmt.ensures.writes plain (search rules) in
    let others = c.loop-member.invariant first.plain in
    has_written_of_eq _ _ _ _ _ (join_whole plus attribute_text _ _ _ _ (sym c.as_slice.ensures ∙ c.in-Some.ensures.cases.0) c.loop-member-test.false)
    (has_written_append _ _ _ _ _ _ first others)
