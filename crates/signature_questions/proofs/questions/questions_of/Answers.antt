use Rattle.std.proofs.lemmas.Result.{err_from_is_err_and}
use Rattle.cms_types.specs.SignedView.{data_elements}
use Rattle.authenticode_core.proofs.OneData.{lies_there}
use Rattle.signature_questions.proofs.questions.questions_of.Goals as goal

pub returns-in_err-signed_data : goal.returns-in_err-signed_data
returns-in_err-signed_data c =
    let p = err_from_is_err_and c.from_residual.result c.from_residual.ensures.1 in
    rw (p.1, p.2) c.in_err-signed_data.ensures

pub returns : goal.returns
returns c =
    let found = c.in_ok-signed_data.ensures in
    (data_elements c.in_ok-signed_data.signed_data, lies_there c.args.bytes.now found.0 c.in_ok-signed_data.signed_data found.1, c.of.ensures)
