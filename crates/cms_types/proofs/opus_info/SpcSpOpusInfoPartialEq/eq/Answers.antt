use Rattle.std.proofs.Common.{◌≡◌, ◌↔◌, IsTrue, Bool, refl}
use Rattle.der_core.specs.Equality.{same_octets}
use Rattle.der_core.specs.Facts.Equality.{octets_decide}
use Rattle.cms_types.specs.OpusInfo.{opus_info}
use Rattle.cms_types.specs.Facts.OpusInfos.{opus_infos}
use Rattle.cms_types.specs.declared.opus_info.SpcSpOpusInfo.{SpcSpOpusInfo}
use Rattle.cms_types.proofs.OpusFields.{by_link, other_name}
use Rattle.cms_types.proofs.opus_info.SpcSpOpusInfoPartialEq.eq.Goals as goal

by_octets : (a b : SpcSpOpusInfo) (test : Bool) → (IsTrue test ↔ (a ≡ b)) → test ≡ same_octets opus_info a b
by_octets = octets_decide opus_info (λ a b e. opus_infos.once (opus_info a) a b refl e) opus_infos.formed

pub returns-then-eq-clause-same : goal.returns-then-eq-clause-same
returns-then-eq-clause-same c = by_link c.args.self.now c.args.other.now _ _ c.eq.ensures c.if-eq.true c.eq-then-eq.ensures

pub returns-then-eq-clause-octets : goal.returns-then-eq-clause-octets
returns-then-eq-clause-octets c = by_octets c.args.self.now c.args.other.now _ (returns-then-eq-clause-same c)

pub returns-else-eq-clause-same : goal.returns-else-eq-clause-same
returns-else-eq-clause-same c = other_name c.args.self.now c.args.other.now _ c.eq.ensures c.if-eq.false

pub returns-else-eq-clause-octets : goal.returns-else-eq-clause-octets
returns-else-eq-clause-octets c = by_octets c.args.self.now c.args.other.now _ (returns-else-eq-clause-same c)
