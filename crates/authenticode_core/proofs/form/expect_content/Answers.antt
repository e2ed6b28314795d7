use Rattle.std.proofs.Common.{refl}
use Rattle.authenticode_core.proofs.FormSteps.{no_other_content, the_content}
use Rattle.authenticode_core.proofs.form.expect_content.Goals as goal

pub unreachable-requires : goal.unreachable-requires
unreachable-requires c =
    no_other_content _ c.content_type.result.now c.in-Some.ensures.0 c.in-Some.elem.is.0 c.content_type.ensures.0 c.requires c.content_type.ensures.1
    c.in-Some.ensures.1 (c.if-not-is_same.ensures.0 refl) c.in-None.ensures

pub returns : goal.returns
returns c =
    the_content _ c.content_type.result.now c.in-Some.ensures.0 c.in-Some.elem.is.0 c.content_type.ensures.0 c.in-Some-indirect_data_in.content c.requires
    c.content_type.ensures.1 c.in-Some.ensures.1 (c.if-not-is_same.ensures.0 refl) c.in-Some-indirect_data_in.ensures
