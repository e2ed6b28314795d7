use Rattle.std.proofs.Common.{◌≡◌, ◌↔◌, IsTrue, Bool, refl, rules}
use Rattle.der_core.specs.Equality.{same_octets}
use Rattle.der_core.specs.Facts.Equality.{octets_decide}
use Rattle.key_types.specs.RsaPrivateKey.{rsa_private_key}
use Rattle.key_types.specs.Facts.RsaPrivateKeys.{rsa_private_keys}
use Rattle.key_types.specs.declared.rsa_private_key.RsaPrivateKey.{RsaPrivateKey}
use Rattle.key_types.proofs.rsa_private_key.RsaPrivateKeyPartialEq.eq.Goals as goal

by_octets : (a b : RsaPrivateKey) (test : Bool) → (IsTrue test ↔ (a ≡ b)) → test ≡ same_octets rsa_private_key a b
by_octets = octets_decide rsa_private_key (λ a b e. rsa_private_keys.once (rsa_private_key a) a b refl e) rsa_private_keys.formed

pub returns-then-eq-7-clause-octets : goal.returns-then-eq-7-clause-octets
returns-then-eq-7-clause-octets c = by_octets c.args.self.now c.args.other.now _ (search rules)

pub returns-else-eq-7-clause-octets : goal.returns-else-eq-7-clause-octets
returns-else-eq-7-clause-octets c = by_octets c.args.self.now c.args.other.now _ (search rules)
