use Rattle.std.proofs.Common.{Err, Ok, ap, ◌∙◌, refl}
use Rattle.std.proofs.lemmas.Result.{err_from_is_err_and}
use Rattle.cms_types.specs.SignedView.{data_elements}
use Rattle.authenticode_core.specs.ContentRefusal.{of_content}
use Rattle.authenticode_core.proofs.OneAnswer.{answer_at, only_at, refusal_is_answer, refused_at, refused_behind, shape_is_answer, value_refuses}
use Rattle.authenticode_core.proofs.OneData.{lies_there}
use Rattle.x509_core.proofs.NoRefusal.{no_refusal}
use Rattle.authenticode_core.proofs.PolicyOrder.{returned_same}
use Rattle.authenticode_core.proofs.steps.check_wincert.Goals as goal

pub check_signed_data-requires : goal.check_signed_data-requires
check_signed_data-requires g c = (c.in_ok-signed_data.ensures.0, c.in_ok-signed_data.ensures.1.is)

pub returns-in_err-signed_data-clause-answer : goal.returns-in_err-signed_data-clause-answer
returns-in_err-signed_data-clause-answer g c =
    let p = err_from_is_err_and c.from_residual.result c.from_residual.ensures.1 in
    answer_at c.one_first_fault.ensures.at_most_one c.one_first_fault.ensures.instead_of_an_element (g.S.Scheme.judge c.args.scheme.now)
    c.args.policy.now c.args.bytes.now c.from_residual.result (Err c.in_err-signed_data.field-0.0) (p.1 ∙ ap Err p.2)
    (shape_is_answer (g.S.Scheme.judge c.args.scheme.now) c.args.policy.now c.args.bytes.now c.in_err-signed_data.field-0.0
    (value_refuses c.args.policy.now c.args.bytes.now c.in_err-signed_data.field-0.0 c.in_err-signed_data.ensures))

pub returns-in_err-signed_data-clause-refused : goal.returns-in_err-signed_data-clause-refused
returns-in_err-signed_data-clause-refused g c =
    let p = err_from_is_err_and c.from_residual.result c.from_residual.ensures.1 in
    refused_at c.one_first_fault.ensures.at_most_one c.one_first_fault.ensures.instead_of_an_element (g.S.Scheme.judge c.args.scheme.now)
    c.args.policy.now c.args.bytes.now c.from_residual.result c.in_err-signed_data.field-0.0 (p.1 ∙ ap Err p.2)
    (value_refuses c.args.policy.now c.args.bytes.now c.in_err-signed_data.field-0.0 c.in_err-signed_data.ensures)

pub returns-in_err-signed_data-clause-only : goal.returns-in_err-signed_data-clause-only
returns-in_err-signed_data-clause-only g c =
    let p = err_from_is_err_and c.from_residual.result c.from_residual.ensures.1 in
    only_at c.one_first_fault.ensures.at_most_one c.one_first_fault.ensures.instead_of_an_element (g.S.Scheme.judge c.args.scheme.now)
    c.args.policy.now c.args.bytes.now c.from_residual.result (Err c.in_err-signed_data.field-0.0) (p.1 ∙ ap Err p.2)
    (shape_is_answer (g.S.Scheme.judge c.args.scheme.now) c.args.policy.now c.args.bytes.now c.in_err-signed_data.field-0.0
    (value_refuses c.args.policy.now c.args.bytes.now c.in_err-signed_data.field-0.0 c.in_err-signed_data.ensures))

pub returns-in_err-accepted-clause-answer : goal.returns-in_err-accepted-clause-answer
returns-in_err-accepted-clause-answer g c =
    let p = err_from_is_err_and c.from_residual-in_err-accepted.result c.from_residual-in_err-accepted.ensures.1 in
    let has = lies_there c.args.bytes.now c.in_ok-signed_data.ensures.0 c.in_ok-signed_data.signed_data c.in_ok-signed_data.ensures.1 in
    answer_at c.one_first_fault.ensures.at_most_one c.one_first_fault.ensures.instead_of_an_element (g.S.Scheme.judge c.args.scheme.now)
    c.args.policy.now c.args.bytes.now c.from_residual-in_err-accepted.result _ (p.1 ∙ ap Err p.2)
    (refusal_is_answer (g.S.Scheme.judge c.args.scheme.now) c.args.policy.now c.args.bytes.now (data_elements c.in_ok-signed_data.signed_data)
    c.in_err-accepted.field-0.0 has c.in_err-accepted.ensures.answer)

pub returns-in_err-accepted-clause-refused : goal.returns-in_err-accepted-clause-refused
returns-in_err-accepted-clause-refused g c =
    let p = err_from_is_err_and c.from_residual-in_err-accepted.result c.from_residual-in_err-accepted.ensures.1 in
    let has = lies_there c.args.bytes.now c.in_ok-signed_data.ensures.0 c.in_ok-signed_data.signed_data c.in_ok-signed_data.ensures.1 in
    refused_behind c.one_first_fault.ensures.at_most_one c.one_first_fault.ensures.instead_of_an_element (g.S.Scheme.judge c.args.scheme.now) c.args.policy.now
    c.args.bytes.now c.from_residual-in_err-accepted.result (data_elements c.in_ok-signed_data.signed_data) (Err c.in_err-accepted.field-0.0) has
    c.in_err-accepted.ensures.shape (λ x same. p.1
    ∙ ap Err (p.2 ∙ ap of_content (returned_same (Err c.in_err-accepted.field-0.0) c.in_err-accepted.field-0.0 x refl same)))

pub returns-in_err-accepted-clause-only : goal.returns-in_err-accepted-clause-only
returns-in_err-accepted-clause-only g c =
    let p = err_from_is_err_and c.from_residual-in_err-accepted.result c.from_residual-in_err-accepted.ensures.1 in
    let has = lies_there c.args.bytes.now c.in_ok-signed_data.ensures.0 c.in_ok-signed_data.signed_data c.in_ok-signed_data.ensures.1 in
    only_at c.one_first_fault.ensures.at_most_one c.one_first_fault.ensures.instead_of_an_element (g.S.Scheme.judge c.args.scheme.now)
    c.args.policy.now c.args.bytes.now c.from_residual-in_err-accepted.result _ (p.1 ∙ ap Err p.2)
    (refusal_is_answer (g.S.Scheme.judge c.args.scheme.now) c.args.policy.now c.args.bytes.now (data_elements c.in_ok-signed_data.signed_data)
    c.in_err-accepted.field-0.0 has c.in_err-accepted.ensures.answer)

pub returns-clause-answer : goal.returns-clause-answer
returns-clause-answer g c =
    let has = lies_there c.args.bytes.now c.in_ok-signed_data.ensures.0 c.in_ok-signed_data.signed_data c.in_ok-signed_data.ensures.1 in
    (data_elements c.in_ok-signed_data.signed_data, has, c.in_ok-accepted.ensures.answer)

pub returns-clause-refused : goal.returns-clause-refused
returns-clause-refused g c =
    let has = lies_there c.args.bytes.now c.in_ok-signed_data.ensures.0 c.in_ok-signed_data.signed_data c.in_ok-signed_data.ensures.1 in
    refused_behind c.one_first_fault.ensures.at_most_one c.one_first_fault.ensures.instead_of_an_element (g.S.Scheme.judge c.args.scheme.now)
    c.args.policy.now c.args.bytes.now (Ok c.in_ok-accepted.accepted) (data_elements c.in_ok-signed_data.signed_data) (Ok c.in_ok-accepted.accepted) has
    c.in_ok-accepted.ensures.shape (λ x same. absurd (no_refusal c.in_ok-accepted.accepted x same))

pub returns-clause-only : goal.returns-clause-only
returns-clause-only g c =
    only_at c.one_first_fault.ensures.at_most_one c.one_first_fault.ensures.instead_of_an_element (g.S.Scheme.judge c.args.scheme.now)
    c.args.policy.now c.args.bytes.now (Ok c.in_ok-accepted.accepted) (Ok c.in_ok-accepted.accepted) refl (returns-clause-answer g c)
