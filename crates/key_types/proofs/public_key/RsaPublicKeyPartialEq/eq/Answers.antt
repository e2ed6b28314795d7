use Rattle.std.proofs.Common.{refl, rules}
use Rattle.der_core.specs.Facts.Equality.{octets_decide}
use Rattle.key_types.specs.RsaPublicKey.{rsa_public_key}
use Rattle.key_types.specs.Facts.Algorithms.{rsa_public_keys}
use Rattle.key_types.proofs.public_key.RsaPublicKeyPartialEq.eq.Goals as goal

pub returns-then-eq-clause-octets : goal.returns-then-eq-clause-octets
returns-then-eq-clause-octets c = octets_decide rsa_public_key (λ a b e. rsa_public_keys.once (rsa_public_key a) a b refl e)
    rsa_public_keys.formed c.args.self.now c.args.other.now _ (search rules)

pub returns-else-eq-clause-octets : goal.returns-else-eq-clause-octets
returns-else-eq-clause-octets c = octets_decide rsa_public_key (λ a b e. rsa_public_keys.once (rsa_public_key a) a b refl e)
    rsa_public_keys.formed c.args.self.now c.args.other.now _ (search rules)
