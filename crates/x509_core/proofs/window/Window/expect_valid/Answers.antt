use Rattle.std.proofs.Common.{inl, rules}
use Rattle.std.proofs.lemmas.Result.{err_from_is_err_and}
use Rattle.x509_types.specs.CertificateView.{view_elements}
use Rattle.x509_core.proofs.Validity.{valid_or_over}
use Rattle.x509_core.proofs.window.Window.expect_valid.Goals as goal

pub returns-in_err-expect_begun : goal.returns-in_err-expect_begun
returns-in_err-expect_begun c =
    let p = err_from_is_err_and c.from_residual.result c.from_residual.ensures.1 in
    rw (p.1, p.2) (inl c.in_err-expect_begun.ensures)

pub returns : goal.returns
returns c = valid_or_over c.args.self.now (view_elements c.args.view) c.expect_not_ended.result c.in_ok-expect_begun.ensures c.expect_not_ended.ensures
