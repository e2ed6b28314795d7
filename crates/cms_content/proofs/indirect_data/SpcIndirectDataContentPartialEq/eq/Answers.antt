use Rattle.std.proofs.Common.{◌≡◌, ◌↔◌, IsTrue, Bool, refl, rules}
use Rattle.der_core.specs.Equality.{same_octets}
use Rattle.der_core.specs.Facts.Equality.{octets_decide}
use Rattle.cms_content.specs.IndirectData.{indirect_data_content}
use Rattle.cms_content.specs.Facts.IndirectDatas.{indirect_data_contents}
use Rattle.cms_content.specs.declared.indirect_data.SpcIndirectDataContent.{SpcIndirectDataContent}
use Rattle.cms_content.proofs.indirect_data.SpcIndirectDataContentPartialEq.eq.Goals as goal

by_octets : (a b : SpcIndirectDataContent) (test : Bool) → (IsTrue test ↔ (a ≡ b)) → test ≡ same_octets indirect_data_content a b
by_octets = octets_decide indirect_data_content (λ a b e. indirect_data_contents.once (indirect_data_content a) a b refl e) indirect_data_contents.formed

pub returns-then-eq-clause-octets : goal.returns-then-eq-clause-octets
returns-then-eq-clause-octets c = by_octets c.args.self.now c.args.other.now _ (search rules)

pub returns-else-eq-clause-octets : goal.returns-else-eq-clause-octets
returns-else-eq-clause-octets c = by_octets c.args.self.now c.args.other.now _ (search rules)
