use Rattle.std.proofs.Common.{sym, ◌∙◌}
use Rattle.cms_types.specs.SignedView.{data_elements}
use Rattle.cms_types.specs.SignerView.{signer_elements_at}
use Rattle.signature_questions.proofs.OneQuestion.{no_digest, no_signer, no_signer_without, the_signer_of, unfit_signer}
use Rattle.signature_questions.proofs.question.Question.of_signer.Goals as goal

pub returns-in_err-signer : goal.returns-in_err-signer
returns-in_err-signer c = rw c.from_residual.ensures (no_signer (data_elements c.args.signed_data.now) c.in_err-signer.ensures)

pub returns-in_err-named : goal.returns-in_err-named
returns-in_err-named c =
    let none = c.in_err-named.ensures in
    rw c.from_residual-in_err-named.ensures (no_signer_without (data_elements c.args.signed_data.now) none.0 none.1 none.2)

pub returns-in_err-hash : goal.returns-in_err-hash
returns-in_err-hash c =
    let signer = c.in_ok-signer.signer in
    rw c.from_residual-in_err-hash.ensures
    (no_digest (data_elements c.args.signed_data.now) (signer_elements_at signer) c.in_ok-signer.ensures
    (c.in_err-hash.ensures (signer_elements_at signer).digest_algorithm (signer.fields.digest_algorithm.is.1.0, c.digest_algorithm.ensures)))

pub returns-in_err-algorithm : goal.returns-in_err-algorithm
returns-in_err-algorithm c =
    let signer = c.in_ok-signer.signer in
    let named = c.in_ok-named.ensures in
    let hash = c.in_ok-hash.ensures (signer_elements_at signer).digest_algorithm (signer.fields.digest_algorithm.is.1.0, c.digest_algorithm.ensures) in
    rw c.from_residual-in_err-algorithm.ensures
    (unfit_signer (data_elements c.args.signed_data.now) (signer_elements_at signer) c.in_ok-signer.ensures named.0 named.1 _ _ named.2 _ hash
    (λ key alg bytes has fits. c.in_err-algorithm.ensures key alg bytes (c.subject_public_key_info.ensures ∙ has) fits))

pub returns : goal.returns
returns c =
    let signer = c.in_ok-signer.signer in
    let named = c.in_ok-named.ensures in
    let hash = c.in_ok-hash.ensures (signer_elements_at signer).digest_algorithm (signer.fields.digest_algorithm.is.1.0, c.digest_algorithm.ensures) in
    let fit = c.in_ok-algorithm.ensures in
    the_signer_of (data_elements c.args.signed_data.now) (signer_elements_at signer) c.in_ok-signer.ensures named.0 named.1 _ _ named.2 _ hash
    fit.0 _ _ _ _ (sym c.subject_public_key_info.ensures ∙ fit.1) fit.2 c.of_signer.ensures c.signature.ensures
