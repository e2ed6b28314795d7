use Rattle.der_core.proofs.RuleLists.{one_broken}
use Rattle.key_core.specs.Verifying.{verify_rules}
use Rattle.key_core.proofs.Verifications.{verify_one, accepted_is_met}
use Rattle.key_core.proofs.signature_laws.signatures_have_one_answer.Goals as goal

pub returns-clause-one_refusal : goal.returns-clause-one_refusal
returns-clause-one_refusal c =
    λ judge algorithm info msg sig a b. one_broken (verify_rules judge algorithm info msg sig) (verify_one judge algorithm info msg sig) a b

pub returns-clause-not_both : goal.returns-clause-not_both
returns-clause-not_both c = accepted_is_met
