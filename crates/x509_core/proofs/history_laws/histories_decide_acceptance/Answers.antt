use Rattle.x509_core.proofs.IssuedLinks.{accepted, valid, checks_on, chain_linked, chain_allowed}
use Rattle.std.specs.Prelude.{Some}
use Rattle.x509_core.proofs.Verdicts.{accepted_is_met}
use Rattle.x509_core.proofs.history_laws.histories_decide_acceptance.Goals as goal

pub returns-clause-accepted : goal.returns-clause-accepted
returns-clause-accepted c = λ judge history certificates date index ancestors checked parents issued are is at. (
  valid judge history certificates date issued index ancestors checked parents are is at,
  accepted judge history certificates date issued index ancestors checked parents are is at,
)

pub returns-clause-refused : goal.returns-clause-refused
returns-clause-refused c = λ judge history certificates date index ancestors checked parents e issued are is at broken holds.
    accepted_is_met judge (checks_on date) checked (Some parents) e
    (accepted judge history certificates date issued index ancestors checked parents are is at holds) broken

pub returns-clause-linked : goal.returns-clause-linked
returns-clause-linked c = λ judge history certificates date index issuers checked parents issued under is at. (
  chain_allowed judge history certificates date issued index issuers checked parents under is at,
  chain_linked judge history certificates date issued index issuers checked parents under is at,
)
