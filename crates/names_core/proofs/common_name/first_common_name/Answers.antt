use Rattle.std.proofs.Common.{◌∙◌, sym, ap}
use Rattle.std.specs.Prelude.{filter_map}
use Rattle.std.specs.List.{slice_get}
use Rattle.names_core.specs.DirectoryName.{common_name_of}
use Rattle.names_core.proofs.CommonNames.{found_here, found_later}
use Rattle.names_core.proofs.common_name.first_common_name.Goals as goal

pub returns-then-is_some : goal.returns-then-is_some
returns-then-is_some c =
    found_here _ _ _ c.first_in-found.result c.in-Some.ensures.cases.0
    (c.first_in-found.ensures ∙ ap (λ set. slice_get (filter_map common_name_of set) 0) c.as_slice.ensures) (sym c.is_some.ensures ∙ c.if-is_some.true)
    ∙ c.loop-set.invariant

pub loop-set-preserved : goal.loop-set-preserved
loop-set-preserved c =
    found_later _ _ _ c.first_in-found.result c.in-Some.ensures.cases.0
    (c.first_in-found.ensures ∙ ap (λ set. slice_get (filter_map common_name_of set) 0) c.as_slice.ensures) (sym c.is_some.ensures ∙ c.if-is_some.false)
    ∙ c.loop-set.invariant
