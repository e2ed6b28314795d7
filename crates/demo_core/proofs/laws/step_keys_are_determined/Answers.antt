use Rattle.key_core.proofs.SmallKeys.{identifier_is, info_is, keys_pair, signature_is}
use Rattle.demo_core.specs.Secrets.{step_modulus}
use Rattle.demo_core.proofs.StepSubjects.{four_octets}
use Rattle.demo_core.proofs.laws.step_keys_are_determined.Goals as goal

pub returns-clause-written : goal.returns-clause-written
returns-clause-written c = λ index. info_is (step_modulus index)

pub returns-clause-identified : goal.returns-clause-identified
returns-clause-identified c = λ index. identifier_is (step_modulus index)

pub returns-clause-paired : goal.returns-clause-paired
returns-clause-paired c = λ index. keys_pair (step_modulus index) (four_octets index)

pub returns-clause-accepted : goal.returns-clause-accepted
returns-clause-accepted c = λ index. signature_is (step_modulus index)
