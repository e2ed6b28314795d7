use Rattle.std.proofs.Common.{◌≡◌, ◌↔◌, IsTrue, Bool, refl, rules}
use Rattle.der_core.specs.Equality.{same_octets}
use Rattle.der_core.specs.Facts.Equality.{octets_decide}
use Rattle.cms_content.specs.DigestInfo.{digest_info}
use Rattle.cms_content.specs.Facts.DigestInfos.{digest_infos}
use Rattle.cms_content.specs.declared.digest_info.DigestInfo.{DigestInfo}
use Rattle.cms_content.proofs.digest_info.DigestInfoPartialEq.eq.Goals as goal

by_octets : (a b : DigestInfo) (test : Bool) → (IsTrue test ↔ (a ≡ b)) → test ≡ same_octets digest_info a b
by_octets = octets_decide digest_info (λ a b e. digest_infos.once (digest_info a) a b refl e) digest_infos.formed

pub returns-then-eq-clause-octets : goal.returns-then-eq-clause-octets
returns-then-eq-clause-octets c = by_octets c.args.self.now c.args.other.now _ (search rules)

pub returns-else-eq-clause-octets : goal.returns-else-eq-clause-octets
returns-else-eq-clause-octets c = by_octets c.args.self.now c.args.other.now _ (search rules)
