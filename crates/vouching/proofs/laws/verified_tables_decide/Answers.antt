use Rattle.sig_core.specs.VerdictTable.{verdict_of}
use Rattle.signature_questions.specs.Asked.{IsOfChain, IsQuestion}
use Rattle.signature_questions.specs.Tables.{row_of}
use Rattle.std.proofs.Common.{[], ◌∷◌, map}
use Rattle.signature_questions.proofs.Admitted.{trusted}
use Rattle.signature_questions.proofs.Chains.{chain_accepted}
use Rattle.vouching.proofs.Backing.{accepting_row, admitted, one_apart, one_verified, own_apart, own_rows}
use Rattle.vouching.proofs.Joining.{behind, behind_chain}
use Rattle.vouching.proofs.laws.verified_tables_decide.Goals as goal

pub returns-clause-trusted : goal.returns-clause-trusted
returns-clause-trusted c = λ judge asked rows policy f accepted behind h.
    trusted (verdict_of rows) judge f (admitted judge asked (IsQuestion f) rows behind) policy accepted h

pub returns-clause-chain : goal.returns-clause-chain
returns-clause-chain c = λ judge asked rows checks checked parents behind h.
    chain_accepted (verdict_of rows) judge checks checked parents (admitted judge asked (IsOfChain checked parents) rows behind) h

pub returns-clause-made : goal.returns-clause-made
returns-clause-made c = λ judge f asked are apart. behind judge asked (map (row_of judge) asked) f are (own_rows judge asked) apart

pub returns-clause-one : goal.returns-clause-one
returns-clause-one c = λ judge f question are accepts.
    behind judge (question ∷ []) (accepting_row question ∷ []) f are (one_verified judge question accepts) (one_apart question)

pub returns-clause-apart : goal.returns-clause-apart
returns-clause-apart c = λ judge asked rows f verified own. record { verified = verified; apart = own_apart _ own }

pub returns-clause-listed : goal.returns-clause-listed
returns-clause-listed c = λ judge asked rows f are verified apart. behind judge asked rows f are verified apart

pub returns-clause-listed_chain : goal.returns-clause-listed_chain
returns-clause-listed_chain c = λ judge asked rows checked parents are verified apart.
    behind_chain judge asked rows checked parents are verified apart
