use Rattle.key_types.proofs.Keys.{rsa_key_in_bits}
use Rattle.key_types.proofs.subject_key.read_rsa_key.Goals as goal

pub returns-in-Some : goal.returns-in-Some
returns-in-Some c = rsa_key_in_bits _ _ c.in-Some.ensures _ c.read_within.ensures
