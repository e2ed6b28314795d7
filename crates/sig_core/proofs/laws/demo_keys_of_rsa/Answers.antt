use Rattle.sig_core.proofs.DemoKeys.{rsa_key_is, no_rsa_key}
use Rattle.sig_core.proofs.laws.demo_keys_of_rsa.Goals as goal

pub returns-clause-derived : goal.returns-clause-derived
returns-clause-derived c = rsa_key_is

pub returns-clause-none : goal.returns-clause-none
returns-clause-none c = no_rsa_key
