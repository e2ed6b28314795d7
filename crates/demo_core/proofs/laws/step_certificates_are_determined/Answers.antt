use Rattle.demo_core.proofs.StepBuilding.{certificate_is}
use Rattle.demo_core.proofs.StepRefusals.{built_or_memory}
use Rattle.demo_core.proofs.StepTbs.{tbs_is}
use Rattle.demo_core.proofs.laws.step_certificates_are_determined.Goals as goal

pub returns-clause-tbs : goal.returns-clause-tbs
returns-clause-tbs c = tbs_is

pub returns-clause-certificate : goal.returns-clause-certificate
returns-clause-certificate c = certificate_is

pub returns-clause-refused : goal.returns-clause-refused
returns-clause-refused c = built_or_memory
