use Rattle.std.proofs.Common.{◌≡◌, List, ℕ, subst}
use Rattle.std.proofs.lemmas.Result.{IfOk-weaker}
use Rattle.name_types.specs.Name.{name}
use Rattle.names_core.specs.Names.{sets_of}
use Rattle.ca_register.specs.LineCertificates.{common_name}
use Rattle.ca_register.proofs.LineSubjects.{name_is}
use Rattle.ca_register.proofs.filling.name_of.Goals as goal

pub returns : goal.returns
returns c =
    IfOk-weaker c.new_common_name.result _ _
    (λ made extended. subst (λ (text : List ℕ). name (sets_of made) ≡ common_name text) c.as_str.ensures.value (name_is c.as_str.result.now made extended))
    c.new_common_name.ensures
