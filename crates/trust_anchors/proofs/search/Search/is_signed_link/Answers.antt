use Rattle.std.proofs.Common.{◌≡◌, ◌≢◌, ◌↔◌, IsTrue, IfOk, false, refl}
use Rattle.std.proofs.lemmas.Result.{IfOk-weaker}
use Rattle.der_core.specs.Rules.{IsFirstBroken}
use Rattle.key_core.specs.Verifying.{Judge}
use Rattle.x509_core.specs.Link.{IsLink, link_rules}
use Rattle.x509_core.specs.declared.error.CertError.{CertError}
use Rattle.x509_core.specs.declared.error.CertError.TheVariants as errors
use Rattle.trust_anchors.proofs.Turns.{answer_false, refused_link}
use Rattle.trust_anchors.proofs.search.Search.is_signed_link.Goals as goal

pub returns-in-Ok-clause-answer : goal.returns-in-Ok-clause-answer
returns-in-Ok-clause-answer g c = (λ on. c.in-Ok.ensures c.args.number refl, λ link. refl)

pub returns-in-Err-clause-answer : goal.returns-in-Err-clause-answer
returns-in-Err-clause-answer g c =
    let judge : Judge = g.S.Scheme.judge c.args.self.now.scheme.now in
    let Link : Type 0 = IsLink judge c.args.self.now.window c.args.number c.args.parent.now.elements c.args.child.now.elements in
    let Broken : CertError → Type 0 = IsFirstBroken (link_rules judge c.args.self.now.window c.args.number c.args.parent.now c.args.child.now) in
    let law : Link → Broken c.in-Err.refusal → ⊥ =
    c.chains_break_no_rule.ensures.link judge c.args.self.now.window c.args.number c.args.parent.now c.args.child.now c.in-Err.refusal in
    let answer : IfOk c.false_unless_memory.result (λ is. (is ≡ false) × (c.in-Err.refusal ≢ errors.Memory)) = c.false_unless_memory.ensures in
    IfOk-weaker c.false_unless_memory.result (λ is. (is ≡ false) × (c.in-Err.refusal ≢ errors.Memory)) (λ is. IsTrue is ↔ Link)
    (λ is other. answer_false Link is other.0 (refused_link Link Broken c.in-Err.refusal law (c.in-Err.ensures c.args.number refl) other.1))
    answer
