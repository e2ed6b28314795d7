use Rattle.std.proofs.Common.{Err, Ok, ap, refl, ◌∙◌}
use Rattle.std.proofs.lemmas.Result.{err_from_is_err_and}
use Rattle.cms_types.specs.SignedView.{data_elements}
use Rattle.authenticode_core.proofs.FormFields.{are_spelled}
use Rattle.x509_core.proofs.NoRefusal.{no_refusal}
use Rattle.authenticode_core.proofs.PolicyOrder.{basic_refuses, ca_refuses, place_is_signers, signer_refuses}
use Rattle.authenticode_core.proofs.PolicyOrder.{returned_is_signers, returned_same, with_list, without_list}
use Rattle.authenticode_core.proofs.steps.check_signed_data.Goals as goal

pub basic_place-requires : goal.basic_place-requires
basic_place-requires g c = are_spelled c.requires.0 c.args.signed_data.now c.requires.1

pub asked_signer-requires-clause-known : goal.asked_signer-requires-clause-known
asked_signer-requires-clause-known g c = place_is_signers (g.S.Scheme.judge c.args.scheme.now) c.args.policy.now (data_elements c.args.signed_data.now)
    c.args.policy.now.basic c.in_ok-known.known c.in_ok-known.ensures.answer

pub asked_signer-requires-clause-spelled : goal.asked_signer-requires-clause-spelled
asked_signer-requires-clause-spelled g c = are_spelled c.requires.0 c.args.signed_data.now c.requires.1

pub expect_listed_signer-requires-clause-known : goal.expect_listed_signer-requires-clause-known
expect_listed_signer-requires-clause-known g c =
    let judge = g.S.Scheme.judge c.args.scheme.now in
    let f = data_elements c.args.signed_data.now in
    returned_is_signers judge c.args.policy.now f c.args.policy.now.signing c.in_ok-known.known c.in_ok-accepted.accepted c.in_ok-accepted.ensures
    (place_is_signers judge c.args.policy.now f c.args.policy.now.basic c.in_ok-known.known c.in_ok-known.ensures.answer)

pub expect_listed_signer-requires-clause-spelled : goal.expect_listed_signer-requires-clause-spelled
expect_listed_signer-requires-clause-spelled g c = are_spelled c.requires.0 c.args.signed_data.now c.requires.1

pub returns-in_err-known-clause-answer : goal.returns-in_err-known-clause-answer
returns-in_err-known-clause-answer g c =
    let p = err_from_is_err_and c.from_residual.result c.from_residual.ensures.1 in
    rw (p.1, p.2) (basic_refuses (g.S.Scheme.judge c.args.scheme.now) c.args.policy.now (data_elements c.args.signed_data.now)
    c.in_err-known.field-0.0 c.in_err-known.ensures.answer)

pub returns-in_err-known-clause-shape : goal.returns-in_err-known-clause-shape
returns-in_err-known-clause-shape g c = λ e broken.
    let p = err_from_is_err_and c.from_residual.result c.from_residual.ensures.1 in
    p.1 ∙ ap Err (p.2 ∙ returned_same (Err c.in_err-known.field-0.0) c.in_err-known.field-0.0 e refl (c.in_err-known.ensures.shape e broken))

pub returns-in_err-accepted-clause-answer : goal.returns-in_err-accepted-clause-answer
returns-in_err-accepted-clause-answer g c =
    let p = err_from_is_err_and c.from_residual-in_err-accepted.result c.from_residual-in_err-accepted.ensures.1 in
    rw (p.1, p.2) (signer_refuses (g.S.Scheme.judge c.args.scheme.now) c.args.policy.now (data_elements c.args.signed_data.now)
    c.in_ok-known.known c.in_ok-known.ensures.answer c.in_err-accepted.field-0.0 c.in_err-accepted.ensures)

pub returns-in_err-accepted-clause-shape : goal.returns-in_err-accepted-clause-shape
returns-in_err-accepted-clause-shape g c = λ e broken. absurd (no_refusal c.in_ok-known.known e (c.in_ok-known.ensures.shape e broken))

pub returns-then-not-policy-clause-answer : goal.returns-then-not-policy-clause-answer
returns-then-not-policy-clause-answer g c =
    without_list (g.S.Scheme.judge c.args.scheme.now) c.args.policy.now (data_elements c.args.signed_data.now)
    c.in_ok-known.known c.in_ok-accepted.accepted c.in_ok-known.ensures.answer c.in_ok-accepted.ensures c.if-not-policy.true

pub returns-then-not-policy-clause-shape : goal.returns-then-not-policy-clause-shape
returns-then-not-policy-clause-shape g c = λ e broken. absurd (no_refusal c.in_ok-known.known e (c.in_ok-known.ensures.shape e broken))

pub returns-in_err-place-clause-answer : goal.returns-in_err-place-clause-answer
returns-in_err-place-clause-answer g c =
    let p = err_from_is_err_and c.from_residual-in_err-place.result c.from_residual-in_err-place.ensures.1 in
    rw (p.1, p.2) (ca_refuses (g.S.Scheme.judge c.args.scheme.now) c.args.policy.now (data_elements c.args.signed_data.now) c.in_ok-known.known
    c.in_ok-accepted.accepted c.in_ok-known.ensures.answer c.in_ok-accepted.ensures c.in_err-place.field-0.0 c.if-not-policy.false c.in_err-place.ensures)

pub returns-in_err-place-clause-shape : goal.returns-in_err-place-clause-shape
returns-in_err-place-clause-shape g c = λ e broken. absurd (no_refusal c.in_ok-known.known e (c.in_ok-known.ensures.shape e broken))

pub returns-clause-answer : goal.returns-clause-answer
returns-clause-answer g c =
    rw c.at.ensures (with_list (g.S.Scheme.judge c.args.scheme.now) c.args.policy.now (data_elements c.args.signed_data.now) c.in_ok-known.known
    c.in_ok-accepted.accepted c.in_ok-known.ensures.answer c.in_ok-accepted.ensures c.in_ok-place.place c.in_ok-place.ensures c.if-not-policy.false)

pub returns-clause-shape : goal.returns-clause-shape
returns-clause-shape g c = λ e broken. absurd (no_refusal c.in_ok-known.known e (c.in_ok-known.ensures.shape e broken))
