use Rattle.std.proofs.lemmas.Result.{err_from_is_err_and}
use Rattle.x509_types.specs.BorrowedTbs.{elements_at}
use Rattle.x509_types.proofs.Spelled.{no_issued_by, no_issued_to, none_added}
use Rattle.x509_types.proofs.certificate.tbs_fields.TbsFields.read.Goals as goal

pub returns-in_err-by : goal.returns-in_err-by
returns-in_err-by c =
    let p = err_from_is_err_and c.from_residual.result c.from_residual.ensures.1 in
    rw (p.1, p.2) (no_issued_by (elements_at c.args.self.now) _ c.in_err-by.ensures)

pub returns-in_err-to : goal.returns-in_err-to
returns-in_err-to c =
    let p = err_from_is_err_and c.from_residual-in_err-to.result c.from_residual-in_err-to.ensures.1 in
    rw (p.1, p.2) (no_issued_to (elements_at c.args.self.now) _ c.in_err-to.ensures)

pub returns-in_err-added : goal.returns-in_err-added
returns-in_err-added c =
    let p = err_from_is_err_and c.from_residual-in_err-added.result c.from_residual-in_err-added.ensures.1 in
    rw (p.1, p.2) (none_added (elements_at c.args.self.now) _ c.in_err-added.ensures)
