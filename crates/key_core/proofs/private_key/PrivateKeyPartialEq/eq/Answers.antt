use Rattle.std.proofs.Common.{◌≡◌, ◌↔◌, IsTrue, Bool, rules}
use Rattle.der_core.specs.Equality.{same_octets}
use Rattle.der_core.specs.Facts.Equality.{octets_decide}
use Rattle.key_core.specs.PrivateKey.{kept_key}
use Rattle.key_core.specs.Facts.PrivateKeys.{keys_once, keys_formed, same_key}
use Rattle.key_core.specs.declared.private_key.PrivateKey.{PrivateKey}
use Rattle.key_core.proofs.private_key.PrivateKeyPartialEq.eq.Goals as goal

by_octets : (a b : PrivateKey) (test : Bool) → (IsTrue test ↔ (a ≡ b)) → test ≡ same_octets kept_key a b
by_octets = octets_decide kept_key keys_once keys_formed

pub returns-then-eq-clause-octets : goal.returns-then-eq-clause-octets
returns-then-eq-clause-octets c = by_octets c.args.self.now c.args.other.now _ (search (same_key, rules))

pub returns-else-eq-clause-octets : goal.returns-else-eq-clause-octets
returns-else-eq-clause-octets c = by_octets c.args.self.now c.args.other.now _ (search rules)
