use Rattle.std.proofs.Common.{◌↔◌, IsTrue, rules}
use Rattle.std.proofs.lemmas.Result.{IfOk-weaker}
use Rattle.x509_core.specs.Link.{IsLink}
use Rattle.trust_anchors.specs.Anchors.{Serves}
use Rattle.trust_anchors.proofs.search.Search.is_anchor.Goals as goal

pub returns-clause-answer : goal.returns-clause-answer
returns-clause-answer g c =
    let serves : Serves c.args.anchor.now c.args.self.now.purpose = c.serves.ensures.0 (search rules) in
    let Link : Type 0 =
    IsLink (g.S.Scheme.judge c.args.self.now.scheme.now) c.args.self.now.window c.args.number c.args.anchor.now.cert.elements c.args.child.now.elements in
    IfOk-weaker c.is_link.result (λ is. IsTrue is ↔ Link) (λ is. IsTrue is ↔ (Serves c.args.anchor.now c.args.self.now.purpose × Link))
    (λ is answer. (λ on. (serves, answer.0 on), λ both. answer.1 both.1)) c.is_link.ensures.answer
