use Rattle.key_core.proofs.RsaSecrets.{is_secret, is_key, derived_half}
use Rattle.key_core.proofs.laws.keys_of_rsa_are_secrets.Goals as goal

pub returns-clause-secret : goal.returns-clause-secret
returns-clause-secret c = is_secret

pub returns-clause-key : goal.returns-clause-key
returns-clause-key c = is_key

pub returns-clause-derived : goal.returns-clause-derived
returns-clause-derived c = λ key info secret bytes. derived_half key.info.private_key key.info.private_key_algorithm key.public_key info secret bytes
