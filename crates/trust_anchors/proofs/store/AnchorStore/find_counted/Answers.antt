use Rattle.std.proofs.Common.{◌≡◌, List, rules, subst, true, ◌∙◌}
use Rattle.x509_core.specs.Window.{IsWithinWindow}
use Rattle.x509_types.specs.CertificateElements.{CertificateElements}
use Rattle.trust_anchors.specs.AnchoredPath.{window_on}
use Rattle.trust_anchors.specs.Inside.Trails.{IsFound}
use Rattle.trust_anchors.specs.declared.anchor.Anchor.{Anchor}
use Rattle.trust_anchors.proofs.Paths.{searched, search_answers}
use Rattle.trust_anchors.proofs.store.AnchorStore.find_counted.Goals as goal

pub returns-clause-found : goal.returns-clause-found
returns-clause-found g c =
    let judge = g.S.Scheme.judge c.args.scheme.now in
    let is : c.is_valid.result ≡ true = search rules in
    let valid : IsWithinWindow (window_on c.args.date.now) c.args.cert.now.elements =
    subst (λ (f : CertificateElements). IsWithinWindow (window_on c.args.date.now) f) c.view.ensures.elements (c.is_valid.ensures.0 is) in
    let anchors : c.deref.result.now ≡ c.args.self.now = c.deref.ensures.value ∙ c.self.view_is in
    search_answers judge c.args.date.now c.args.cert.now c.args.pool.now c.args.self.now c.args.purpose c.in_ok-first_path.field-0 valid
    (subst (λ (anchors : List Anchor). IsFound (searched judge c.args.date.now c.args.cert.now c.args.pool.now anchors c.args.purpose)
    c.in_ok-first_path.field-0) anchors c.in_ok-first_path.ensures.found)
