use Rattle.x509_issuing.proofs.Requested.{by_parts, of_parts}
use Rattle.x509_issuing.proofs.request.CertificationRequest.expect_shapes.Goals as goal

pub returns-in_err-expect : goal.returns-in_err-expect
returns-in_err-expect c = rw c.from_residual.ensures (λ r p. c.in_err-expect.ensures r.certification_request_info (by_parts _ _ _ _ r c.in-Some.ensures p).0)

pub returns-in_err-expect-2 : goal.returns-in_err-expect-2
returns-in_err-expect-2 c =
    rw c.from_residual-in_err-expect-2.ensures (λ r p. c.in_err-expect-2.ensures r.signature_algorithm (by_parts _ _ _ _ r c.in-Some.ensures p).1)

pub returns-in_err-expect-3 : goal.returns-in_err-expect-3
returns-in_err-expect-3 c = rw c.from_residual-in_err-expect-3.ensures (λ r p. c.in_err-expect-3.ensures r.signature (by_parts _ _ _ _ r c.in-Some.ensures p).2)

pub returns : goal.returns
returns c = of_parts _ _ _ _ c.in-Some.ensures c.in_ok-expect.ensures c.in_ok-expect-2.ensures c.in_ok-expect-3.ensures
