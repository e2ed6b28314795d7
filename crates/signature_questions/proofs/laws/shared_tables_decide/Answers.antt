use Rattle.sig_core.specs.VerdictTable.{verdict_of}
use Rattle.signature_questions.specs.Asked.{IsOfChain, IsOfLink, IsQuestion}
use Rattle.signature_questions.proofs.Admitted.{trusted}
use Rattle.signature_questions.proofs.Agreed.{answered, turned}
use Rattle.signature_questions.proofs.Tables.{accepted_rows_admit, accepted_rows_are_admitted, joined_rows, rows_agree}
use Rattle.signature_questions.proofs.laws.shared_tables_decide.Goals as goal

pub returns-clause-agreed : goal.returns-clause-agreed
returns-clause-agreed c = λ judge f rows has. rows_agree judge (IsQuestion f) rows has

pub returns-clause-answer : goal.returns-clause-answer
returns-clause-answer c = λ judge policy octets rows result has. (
  λ h. answered judge (verdict_of rows) policy octets result (λ f there. rows_agree judge (IsQuestion f) rows (has f there)) h,
  λ h. answered (verdict_of rows) judge policy octets result
      (λ f there. turned (IsQuestion f) judge (verdict_of rows) (rows_agree judge (IsQuestion f) rows (has f there))) h,
)

pub returns-clause-trusted : goal.returns-clause-trusted
returns-clause-trusted c = λ judge policy f rows accepted has. (
  λ h. trusted judge (verdict_of rows) f (accepted_rows_admit judge (IsQuestion f) rows has) policy accepted h,
  λ h. trusted (verdict_of rows) judge f (accepted_rows_are_admitted judge (IsQuestion f) rows has) policy accepted h,
)

pub returns-clause-chain : goal.returns-clause-chain
returns-clause-chain c = λ judge checked parents rows has. rows_agree judge (IsOfChain checked parents) rows has

pub returns-clause-chain_accepted : goal.returns-clause-chain_accepted
returns-clause-chain_accepted c = λ judge checked parents rows has.
    (accepted_rows_admit judge (IsOfChain checked parents) rows has, accepted_rows_are_admitted judge (IsOfChain checked parents) rows has)

pub returns-clause-link : goal.returns-clause-link
returns-clause-link c = λ judge parent child rows has. rows_agree judge (IsOfLink parent child) rows has

pub returns-clause-joined : goal.returns-clause-joined
returns-clause-joined c = λ judge f g rows more are also apart. joined_rows judge (IsQuestion f) (IsQuestion g) _ rows more are also apart
