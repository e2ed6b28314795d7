use Rattle.std.proofs.Common.{Err, ap, refl, ◌∙◌}
use Rattle.std.proofs.lemmas.Result.{err_from_is_err_and}
use Rattle.cms_types.specs.SignedView.{data_elements}
use Rattle.x509_core.proofs.NoRefusal.{no_refusal}
use Rattle.authenticode_core.proofs.PolicyOrder.{asked_place, asked_refusal, asked_shape, returned_same, unasked_place, unasked_shape}
use Rattle.authenticode_core.proofs.steps.basic_place.Goals as goal

pub returns-then-not-policy-clause-answer : goal.returns-then-not-policy-clause-answer
returns-then-not-policy-clause-answer g c =
    unasked_place (g.S.Scheme.judge c.args.scheme.now) c.args.policy.now (data_elements c.args.signed_data.now) c.args.policy.now.basic c.if-not-policy.true

pub returns-then-not-policy-clause-shape : goal.returns-then-not-policy-clause-shape
returns-then-not-policy-clause-shape g c = λ e broken.
    absurd (unasked_shape (g.S.Scheme.judge c.args.scheme.now) c.args.policy.now (data_elements c.args.signed_data.now)
    c.args.policy.now.basic e c.if-not-policy.true broken)

pub returns-in_err-place-clause-answer : goal.returns-in_err-place-clause-answer
returns-in_err-place-clause-answer g c =
    let p = err_from_is_err_and c.from_residual.result c.from_residual.ensures.1 in
    rw (p.1, p.2) (asked_refusal (g.S.Scheme.judge c.args.scheme.now) c.args.policy.now (data_elements c.args.signed_data.now)
    c.args.policy.now.basic c.in_err-place.field-0.0 c.if-not-policy.false c.in_err-place.ensures.answer)

pub returns-in_err-place-clause-shape : goal.returns-in_err-place-clause-shape
returns-in_err-place-clause-shape g c = λ e broken.
    let p = err_from_is_err_and c.from_residual.result c.from_residual.ensures.1 in
    p.1 ∙ ap Err (p.2 ∙ returned_same (Err c.in_err-place.field-0.0) c.in_err-place.field-0.0 e refl (c.in_err-place.ensures.shape e (asked_shape
    (g.S.Scheme.judge c.args.scheme.now) c.args.policy.now (data_elements c.args.signed_data.now) c.args.policy.now.basic e c.if-not-policy.false broken)))

pub returns-clause-answer : goal.returns-clause-answer
returns-clause-answer g c =
    asked_place (g.S.Scheme.judge c.args.scheme.now) c.args.policy.now (data_elements c.args.signed_data.now)
    c.args.policy.now.basic c.in_ok-place.place c.if-not-policy.false c.in_ok-place.ensures.answer

pub returns-clause-shape : goal.returns-clause-shape
returns-clause-shape g c = λ e broken.
    absurd (no_refusal c.in_ok-place.place e (c.in_ok-place.ensures.shape e (asked_shape (g.S.Scheme.judge c.args.scheme.now) c.args.policy.now
    (data_elements c.args.signed_data.now) c.args.policy.now.basic e c.if-not-policy.false broken)))
