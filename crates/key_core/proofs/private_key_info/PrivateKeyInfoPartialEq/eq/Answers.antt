use Rattle.std.proofs.Common.{◌≡◌, ◌↔◌, IsTrue, Bool, rules}
use Rattle.der_core.specs.Equality.{same_octets}
use Rattle.der_core.specs.Facts.Equality.{octets_decide}
use Rattle.key_core.specs.PrivateKeyInfo.{private_key_info}
use Rattle.key_core.specs.Facts.PrivateKeyInfos.{infos_once, infos_formed, same_info}
use Rattle.key_core.specs.declared.private_key_info.PrivateKeyInfo.{PrivateKeyInfo}
use Rattle.key_core.proofs.private_key_info.PrivateKeyInfoPartialEq.eq.Goals as goal

by_octets : (a b : PrivateKeyInfo) (test : Bool) → (IsTrue test ↔ (a ≡ b)) → test ≡ same_octets private_key_info a b
by_octets = octets_decide private_key_info infos_once infos_formed

pub returns-then-are_same-clause-octets : goal.returns-then-are_same-clause-octets
returns-then-are_same-clause-octets c = by_octets c.args.self.now c.args.other.now _ (search (same_info, rules))

pub returns-else-are_same-clause-octets : goal.returns-else-are_same-clause-octets
returns-else-are_same-clause-octets c = by_octets c.args.self.now c.args.other.now _ (search rules)
