use Rattle.x509_types.specs.BorrowedTbs.{elements_at}
use Rattle.x509_types.proofs.Spelled.{all_fit}
use Rattle.x509_types.proofs.certificate.tbs_fields.TbsFields.expect_shapes.Goals as goal

pub returns-in_err-expect_integer : goal.returns-in_err-expect_integer
returns-in_err-expect_integer c = rw c.from_residual-in_err-expect_integer.ensures (λ tbs p. c.in_err-expect_integer.ensures tbs.serial_number p.serial_number)

pub returns : goal.returns
returns c =
    all_fit (elements_at c.args.self.now) c.in_ok-expect_option.ensures
    c.in_ok-expect_integer.ensures c.in_ok-expect.ensures c.in_ok-expect-2.ensures
    c.in_ok-expect-3.ensures c.in_ok-expect-4.ensures c.in_ok-expect-5.ensures
    c.in_ok-expect_option-2.ensures
