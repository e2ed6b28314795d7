use Rattle.cms_types.specs.SignedView.{data_elements}
use Rattle.signature_questions.proofs.Walk.{no_stamping, no_token, stamp_from}
use Rattle.signature_questions.proofs.questions.stamp_of.Goals as goal

pub returns-in_err-token : goal.returns-in_err-token
returns-in_err-token c = rw c.from_residual.ensures (no_token (data_elements c.args.signed_data.now) c.in_err-token.ensures)

pub returns-in_err-first : goal.returns-in_err-first
returns-in_err-first c =
    rw c.from_residual-in_err-first.ensures
    (no_stamping (data_elements c.args.signed_data.now) (data_elements c.in_ok-token.token) c.in_ok-token.ensures c.in_err-first.ensures)

pub returns : goal.returns
returns c =
    let leads = c.in_ok-first.ensures in
    stamp_from (data_elements c.args.signed_data.now) (data_elements c.in_ok-token.token) c.in_ok-token.ensures leads.bag leads.stamping _ leads.stands _
    (c.in_bag.ensures leads.bag (c.certificate_bag.ensures.stands leads.bag leads.stamping.is_bag) c.certificate_bag.ensures.place)
