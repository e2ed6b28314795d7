use Rattle.demo_core.specs.Secrets.{step_modulus}
use Rattle.demo_core.proofs.StepSubjects.{four_octets}
use Rattle.key_core.proofs.SmallRefusals.{half_or_memory, identifier_or_memory, signature_or_memory}
use Rattle.demo_core.proofs.laws.step_keys_are_refused_for_memory_alone.Goals as goal

pub returns-clause-public : goal.returns-clause-public
returns-clause-public c = λ index. half_or_memory (step_modulus index)

pub returns-clause-identified : goal.returns-clause-identified
returns-clause-identified c = λ index. identifier_or_memory (step_modulus index) (four_octets index)

pub returns-clause-signed : goal.returns-clause-signed
returns-clause-signed c = λ index. signature_or_memory (step_modulus index) (four_octets index)
