use Rattle.std.proofs.Common.{ap, is_some}
use Rattle.key_core.proofs.SmallSecrets.{demo_key_is}
use Rattle.demo_core.specs.Secrets.{step_modulus}
use Rattle.demo_core.proofs.StepSubjects.{four_octets}
use Rattle.demo_core.proofs.laws.secrets_have_keys.Goals as goal

pub returns-clause-derived : goal.returns-clause-derived
returns-clause-derived c = λ index. demo_key_is (step_modulus index) (four_octets index)

pub returns-clause-signs : goal.returns-clause-signs
returns-clause-signs c = λ index. ap is_some (demo_key_is (step_modulus index) (four_octets index))
