use Rattle.der_core.proofs.RuleLists.{one_broken}
use Rattle.key_core.specs.Signing.{sign_rules}
use Rattle.key_core.proofs.Signings.{sign_one, asked_is_met}
use Rattle.key_core.proofs.signature_laws.signing_has_one_answer.Goals as goal

pub returns-clause-one_refusal : goal.returns-clause-one_refusal
returns-clause-one_refusal c = λ signs algorithm key msg a b. one_broken (sign_rules signs algorithm key msg) (sign_one signs algorithm key msg) a b

pub returns-clause-not_both : goal.returns-clause-not_both
returns-clause-not_both c = asked_is_met
