use Rattle.std.proofs.Common.{◌≡◌, false, refl, rules, subst, sym, ◌∙◌}
use Rattle.std.proofs.lemmas.Bool.{false≢true}
use Rattle.x509_types.specs.CertificateElements.{CertificateElements}
use Rattle.x509_types.specs.CertificateView.{view_elements}
use Rattle.trust_anchors.specs.Inside.Unsigned.{IsUnsignedLink}
use Rattle.trust_anchors.proofs.Turns.{answer_false}
use Rattle.trust_anchors.proofs.UnsignedLinks.{unsigned_of}
use Rattle.trust_anchors.proofs.search.Search.is_link.Goals as goal

pub returns-then-not-is_unsigned_link-clause-answer : goal.returns-then-not-is_unsigned_link-clause-answer
returns-then-not-is_unsigned_link-clause-answer g c =
    let judge = g.S.Scheme.judge c.args.self.now.scheme.now in
    let w = c.args.self.now.window in
    let parent : CertificateElements = view_elements c.view.result in
    let child : CertificateElements = view_elements c.view-2.result in
    let off : c.is_unsigned_link.result ≡ false = search rules in
    answer_false _ _ refl (λ link.
    let own = unsigned_of judge w c.args.number c.args.parent.now.elements c.args.child.now.elements link in
    let above : IsUnsignedLink w c.args.number parent c.args.child.now.elements =
    subst (λ (f : CertificateElements). IsUnsignedLink w c.args.number f c.args.child.now.elements) (sym c.view.ensures.elements) own in
    let both : IsUnsignedLink w c.args.number parent child =
    subst (λ (f : CertificateElements). IsUnsignedLink w c.args.number parent f) (sym c.view-2.ensures.elements) above in
    false≢true (sym off ∙ c.is_unsigned_link.ensures.1 both))
