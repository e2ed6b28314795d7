use Rattle.std.proofs.Common.{sym, ◌∙◌}
use Rattle.x509_types.specs.CertificateView.{view_elements}
use Rattle.signature_questions.proofs.OneQuestion.{no_algorithm, the_link_of, unfit_link}
use Rattle.signature_questions.proofs.question.Question.of_link.Goals as goal

pub returns-in_err-algorithm : goal.returns-in_err-algorithm
returns-in_err-algorithm c =
    rw c.from_residual.ensures (no_algorithm (view_elements c.args.parent.now) (view_elements c.args.child.now) c.in_err-algorithm.ensures)

pub returns-in_err-algorithm-2 : goal.returns-in_err-algorithm-2
returns-in_err-algorithm-2 c =
    let named = c.in_ok-algorithm.ensures in
    rw c.from_residual-in_err-algorithm-2.ensures
    (unfit_link (view_elements c.args.parent.now) (view_elements c.args.child.now) _ named.0 named.1 named.2
    (λ key alg bytes has fits. c.in_err-algorithm-2.ensures key alg bytes (c.subject_public_key_info.ensures ∙ has) fits))

pub returns : goal.returns
returns c =
    let named = c.in_ok-algorithm.ensures in
    let fit = c.in_ok-algorithm-2.ensures in
    the_link_of (view_elements c.args.parent.now) (view_elements c.args.child.now) _ named.0 named.1 named.2
    fit.0 _ _ _ _ (sym c.subject_public_key_info.ensures ∙ fit.1) fit.2 (c.of.ensures ∙ c.tbs.ensures) c.signature.ensures
