use Rattle.cms_types.specs.SignedView.{data_elements}
use Rattle.signature_questions.proofs.Walk.{no_path_of_none, no_path_without, path_from}
use Rattle.signature_questions.proofs.questions.path_of.Goals as goal

pub returns-in_err-signer : goal.returns-in_err-signer
returns-in_err-signer c = rw c.from_residual.ensures (no_path_of_none (data_elements c.args.signed_data.now) c.in_err-signer.ensures)

pub returns-in_err-named : goal.returns-in_err-named
returns-in_err-named c =
    let none = c.in_err-named.ensures in
    rw c.from_residual-in_err-named.ensures (no_path_without (data_elements c.args.signed_data.now) none.0 none.1 none.2)

pub returns : goal.returns
returns c =
    let named = c.in_ok-named.ensures in
    path_from (data_elements c.args.signed_data.now) named.0 _ _ _ named.1 named.2
    (c.on_path.ensures named.0 (c.certificate_bag.ensures.stands named.0 named.1) c.certificate_bag.ensures.place)
