use Rattle.std.proofs.Common.{◌≡◌, ◌↔◌, IsTrue, Bool, refl, ap}
use Rattle.der_core.specs.Facts.Equality.{octets_decide}
use Rattle.cms_types.specs.SpcLink.{spc_link}
use Rattle.cms_types.specs.Facts.SpcLinks.{spc_links, same_link}
use Rattle.cms_types.specs.declared.opus_info.spc_link.SpcLink.{SpcLink}
use Rattle.cms_types.proofs.opus_info.spc_link.SpcLinkPartialEq.eq.Goals as goal

by_field : (a b : SpcLink) (test : Bool) → (IsTrue test ↔ (a.url ≡ b.url)) → IsTrue test ↔ (a ≡ b)
by_field a b test same = (λ t. same_link a b (same.0 t), λ e. same.1 (ap (λ (l : SpcLink). l.url) e))

pub returns-clause-same : goal.returns-clause-same
returns-clause-same c = by_field c.args.self.now c.args.other.now _ c.eq.ensures.same

pub returns-clause-octets : goal.returns-clause-octets
returns-clause-octets c =
    octets_decide spc_link (λ a b e. spc_links.once (spc_link a) a b refl e) spc_links.formed c.args.self.now c.args.other.now _ (returns-clause-same c)
