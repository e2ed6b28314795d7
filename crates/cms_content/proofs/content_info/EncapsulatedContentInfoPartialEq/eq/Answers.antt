use Rattle.std.proofs.Common.{◌≡◌, ◌↔◌, IsTrue, Bool, refl, rules}
use Rattle.der_core.specs.Equality.{same_octets}
use Rattle.der_core.specs.Facts.Equality.{octets_decide}
use Rattle.cms_content.specs.ContentInfo.{content_info}
use Rattle.cms_content.specs.Facts.ContentInfos.{content_infos}
use Rattle.cms_content.specs.declared.content_info.EncapsulatedContentInfo.{EncapsulatedContentInfo}
use Rattle.cms_content.proofs.Contents.{by_content, contents_same}
use Rattle.cms_content.proofs.content_info.EncapsulatedContentInfoPartialEq.eq.Goals as goal

by_octets : (a b : EncapsulatedContentInfo) (test : Bool) → (IsTrue test ↔ (a ≡ b)) → test ≡ same_octets content_info a b
by_octets = octets_decide content_info (λ a b e. content_infos.once (content_info a) a b refl e) content_infos.formed

pub returns-then-eq-clause-same : goal.returns-then-eq-clause-same
returns-then-eq-clause-same c = by_content c.args.self.now c.args.other.now _ (c.eq.ensures.same.0 c.if-eq.true) (contents_same _ _ _ c.eq-then-eq.ensures)

pub returns-then-eq-clause-octets : goal.returns-then-eq-clause-octets
returns-then-eq-clause-octets c = by_octets c.args.self.now c.args.other.now _ (returns-then-eq-clause-same c)

pub returns-else-eq-clause-octets : goal.returns-else-eq-clause-octets
returns-else-eq-clause-octets c = by_octets c.args.self.now c.args.other.now _ (search rules)
