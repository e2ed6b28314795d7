use Rattle.std.proofs.Common.{◌∙◌}
use Rattle.std.proofs.lemmas.Result.{IfOk-weaker}
use Rattle.demo_core.proofs.StepSubjects.{name_is}
use Rattle.demo_core.proofs.issuing.name_of.Goals as goal

pub returns : goal.returns
returns c =
    IfOk-weaker c.new_common_name.result _ _
    (λ made extended. name_is c.args.index c.as_str.result.now made (c.as_str.ensures.value ∙ c.in_ok-name.ensures.ok) extended) c.new_common_name.ensures
