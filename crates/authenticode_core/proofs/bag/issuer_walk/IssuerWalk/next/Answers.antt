use Rattle.std.proofs.Common.{sym, ◌∙◌, arith}
use Rattle.authenticode_core.proofs.bag.issuer_walk.IssuerWalk.next.Goals as goal

pub returns-in_err-next-clause-next : goal.returns-in_err-next-clause-next
returns-in_err-next-clause-next c =
    rw c.from_residual.ensures
    (λ bag from subject l place d later at fits. c.in_err-next.ensures.least bag l.stands place d (omega (arith, later, l.place)) at (fits ∙ sym l.octets))

pub returns-clause-next : goal.returns-clause-next
returns-clause-next c = λ bag from subject l.
    let next = c.in_ok-next.ensures.least bag l.stands in (
      record {
        later = omega (arith, next.0.later, l.place);
        stands = next.0.stands;
        fits = next.0.fits ∙ l.octets;
        least = λ place d later before at fits. next.0.least place d (omega (arith, later, l.place)) before at (fits ∙ sym l.octets);
      },
      record { stands = c.in_ok-next.ensures.stands bag l.stands; place = next.1; octets = c.issuer.ensures },
    )
