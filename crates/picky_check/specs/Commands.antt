-- The answer on the files of a command; the program.
use Rattle.std.specs.Prelude.{ℕ, List, [], ◌∷◌}
use Rattle.asn1_types.specs.declared.generalized_time.GeneralizedTime.{GeneralizedTime}
use Rattle.key_core.specs.Verifying.{Judge}
use Rattle.picky_check.specs.ChainAnswer.{IsChainAnswer}
use Rattle.program_frame.specs.Commands.{Program}
use Rattle.program_frame.specs.Tables.{TableProgram, by_table}
use Rattle.picky_check.specs.Policies.{basic_policy, check_policy}
use Rattle.picky_check.specs.Report.{Answer, OfSignature, OfChain, reporting}
use Rattle.picky_check.specs.SignatureAnswer.{IsListAnswer, IsSignatureAnswer}
use Rattle.picky_check.specs.Words.{Command, Basic, Check, Chain, AsksFor, files_of}

-- the text of the verdict table, among the contents of the files
abbrev pub table_in : Command → List (List ℕ) → List ℕ
table_in (Basic signature table hash) (octets ∷ text ∷ others) = text
table_in (Check signature table hash date options) (octets ∷ text ∷ others) = text
table_in (Chain table date certificates) (text ∷ others) = text
table_in command contents = []

-- an answer for the octets of certificates
abbrev pub IsCertificateAnswer : Judge → GeneralizedTime → List (List ℕ) → Answer → Type 0
IsCertificateAnswer judge date octets (OfSignature given) = ⊥
IsCertificateAnswer judge date octets (OfChain given) = IsChainAnswer judge date octets given

-- The answer of a command on the contents of its files, by these verdicts.
abbrev pub IsAnswerTo : Judge → Command → List (List ℕ) → Answer → Type 0
IsAnswerTo judge (Basic signature table hash) (octets ∷ others) answer =
    IsSignatureAnswer judge (basic_policy hash) octets answer
IsAnswerTo judge (Check signature table hash date options) (octets ∷ text ∷ lists) answer =
    IsListAnswer judge (check_policy hash date options) octets lists answer
IsAnswerTo judge (Chain table date certificates) (text ∷ octets) answer =
    IsCertificateAnswer judge date octets answer
IsAnswerTo judge command contents answer = ⊥

-- the program: its table of commands, and their answers by verdicts
abbrev pub checks : TableProgram Command Answer
checks = record {
  AsksFor = AsksFor;
  files_of = files_of;
  table_in = table_in;
  IsAnswerTo = IsAnswerTo;
  reporting = reporting;
}

-- the program
abbrev pub program : Program Command
program = by_table checks
