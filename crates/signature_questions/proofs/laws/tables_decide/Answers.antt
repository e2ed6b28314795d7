use Rattle.sig_core.specs.VerdictTable.{verdict_of}
use Rattle.signature_questions.specs.Asked.{IsOfChain, IsQuestion}
use Rattle.signature_questions.proofs.Admitted.{trusted}
use Rattle.signature_questions.proofs.Agreed.{answered, turned}
use Rattle.signature_questions.proofs.Tables.{accepted_rows_admit, accepted_rows_are_admitted, own_rows, rows_agree}
use Rattle.signature_questions.proofs.laws.tables_decide.Goals as goal

pub returns-clause-agreed : goal.returns-clause-agreed
returns-clause-agreed c = λ judge f rows are. rows_agree judge (IsQuestion f) rows (own_rows judge (IsQuestion f) _ rows are)

pub returns-clause-answer : goal.returns-clause-answer
returns-clause-answer c = λ judge policy octets rows result are. (
  λ h. answered judge (verdict_of rows) policy octets result
      (λ f has. rows_agree judge (IsQuestion f) rows (own_rows judge (IsQuestion f) _ rows (are f has))) h,
  λ h. answered (verdict_of rows) judge policy octets result
      (λ f has. turned (IsQuestion f) judge (verdict_of rows) (rows_agree judge (IsQuestion f) rows (own_rows judge (IsQuestion f) _ rows (are f has)))) h,
)

pub returns-clause-trusted : goal.returns-clause-trusted
returns-clause-trusted c = λ judge policy f rows accepted are. (
  λ h. trusted judge (verdict_of rows) f (accepted_rows_admit judge (IsQuestion f) rows (own_rows judge (IsQuestion f) _ rows are)) policy accepted h,
  λ h. trusted (verdict_of rows) judge f (accepted_rows_are_admitted judge (IsQuestion f) rows (own_rows judge (IsQuestion f) _ rows are)) policy accepted h,
)

pub returns-clause-chain : goal.returns-clause-chain
returns-clause-chain c =
    λ judge checked parents rows are. rows_agree judge (IsOfChain checked parents) rows (own_rows judge (IsOfChain checked parents) _ rows are)

pub returns-clause-chain_accepted : goal.returns-clause-chain_accepted
returns-clause-chain_accepted c = λ judge checked parents rows are.
    let has = own_rows judge (IsOfChain checked parents) _ rows are in
    (accepted_rows_admit judge (IsOfChain checked parents) rows has, accepted_rows_are_admitted judge (IsOfChain checked parents) rows has)
