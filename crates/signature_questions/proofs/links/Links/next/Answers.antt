use Rattle.std.proofs.Common.{Some, None, arith}
use Rattle.x509_types.specs.CertificateView.{view_elements}
use Rattle.signature_questions.specs.Borrowed.{asked}
use Rattle.signature_questions.proofs.Walk.{links_end, links_go_on}
use Rattle.signature_questions.proofs.links.Links.next.Goals as goal

pub loop-parent-preserved : goal.loop-parent-preserved
loop-parent-preserved c = record {
  ahead = λ qs more. c.loop-parent.invariant.ahead qs (links_go_on _ _ _ _ _ c.in-Some.ensures.next None c.in_default-of_link.ensures qs more);
  shorter = omega (arith, c.in-Some.ensures.fewer, c.loop-parent.invariant.shorter);
}

pub returns-in-Some-of_link-clause-next : goal.returns-in-Some-of_link-clause-next
returns-in-Some-of_link-clause-next c = λ others more.
    c.loop-parent.invariant.ahead _
    (links_go_on _ _ _ _ _ c.in-Some.ensures.next (Some (asked c.in-Some-of_link.question)) c.in-Some-of_link.ensures others more)

pub returns-in-Some-of_link-clause-fewer : goal.returns-in-Some-of_link-clause-fewer
returns-in-Some-of_link-clause-fewer c = omega (arith, c.in-Some.ensures.fewer, c.loop-parent.invariant.shorter)

pub returns-clause-next : goal.returns-clause-next
returns-clause-next c =
    c.loop-parent.invariant.ahead _ (links_end (view_elements c.loop-parent.self.child) c.loop-parent.self.parents c.in_default.ensures.next)
