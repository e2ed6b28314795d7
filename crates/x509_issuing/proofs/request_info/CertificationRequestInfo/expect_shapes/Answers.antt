use Rattle.x509_issuing.proofs.Requested.{by_request_fields, of_request_fields}
use Rattle.x509_issuing.proofs.request_info.CertificationRequestInfo.expect_shapes.Goals as goal

pub returns-in_err-expect : goal.returns-in_err-expect
returns-in_err-expect c = rw c.from_residual.ensures (λ info p. c.in_err-expect.ensures info.subject (by_request_fields _ _ _ _ info c.in-Some.ensures p).0)

pub returns-in_err-expect-2 : goal.returns-in_err-expect-2
returns-in_err-expect-2 c = rw c.from_residual-in_err-expect-2.ensures
    (λ info p. c.in_err-expect-2.ensures info.subject_public_key_info (by_request_fields _ _ _ _ info c.in-Some.ensures p).1)

pub returns-in_err-expect_attributes : goal.returns-in_err-expect_attributes
returns-in_err-expect_attributes c = rw c.from_residual-in_err-expect_attributes.ensures
    (λ info p. c.in_err-expect_attributes.ensures info.attributes (by_request_fields _ _ _ _ info c.in-Some.ensures p).2)

pub returns : goal.returns
returns c = of_request_fields _ _ _ _ c.in-Some.ensures c.in_ok-expect.ensures c.in_ok-expect-2.ensures c.in_ok-expect_attributes.ensures
