use Rattle.std.proofs.Common.{Err, Some, inl, sym, ap, ◌∙◌}
use Rattle.std.proofs.lemmas.Result.{err_from_is_err_and}
use Rattle.cms_types.specs.SignedView.{data_elements}
use Rattle.cms_types.specs.SignerView.{signer_elements_at}
use Rattle.authenticode_core.proofs.BasicOrder.{form_in_shape, refused_so, shape_in_basic, vouched_at_or_not}
use Rattle.authenticode_core.proofs.basic.expect_basic.Goals as goal

pub returns-clause-answer : goal.returns-clause-answer
returns-clause-answer g c =
    let form = c.in_ok-form.ensures in
    vouched_at_or_not (data_elements c.args.signed_data.now) c.args.policy.now.file_hash (g.S.Scheme.judge c.args.scheme.now) form.algorithm form.d
    (signer_elements_at c.in_ok-form.form.signer) c.as_slice.result.now form.has
    (c.in-Some.is ∙ ap Some (sym c.as_slice.ensures)) c.expect_vouched.result c.expect_vouched.ensures

pub returns-in_err-form-clause-answer : goal.returns-in_err-form-clause-answer
returns-in_err-form-clause-answer g c =
    let p = err_from_is_err_and c.from_residual.result c.from_residual.ensures.1 in
    let f = data_elements c.args.signed_data.now in
    let given = c.args.policy.now.file_hash in
    rw (p.1, p.2) (inl (shape_in_basic f given (g.S.Scheme.judge c.args.scheme.now) c.in_err-form.field-0.0
    (form_in_shape f given c.in_err-form.field-0.0 c.in_err-form.ensures)))

pub returns-in_err-form-clause-shape : goal.returns-in_err-form-clause-shape
returns-in_err-form-clause-shape g c =
    let p = err_from_is_err_and c.from_residual.result c.from_residual.ensures.1 in
    let f = data_elements c.args.signed_data.now in
    let given = c.args.policy.now.file_hash in
    refused_so f given c.from_residual.result c.in_err-form.field-0.0 (p.1 ∙ ap Err p.2) (form_in_shape f given c.in_err-form.field-0.0 c.in_err-form.ensures)
