-- Schemes that agree on questions.
use Rattle.std.specs.Prelude.{◌≡◌}
use Rattle.key_core.specs.Verifying.{Judge}
use Rattle.sig_core.specs.declared.scheme.Verdict.TheVariants.{Accept}
use Rattle.signature_questions.specs.Question.{Question, verdict_on}

-- what the first scheme accepts of these questions, the second accepts too
abbrev pub Admits : (Question → Type 0) → Judge → Judge → Type 0
Admits Asked a b = (q : Question) → Asked q → verdict_on a q ≡ Accept → verdict_on b q ≡ Accept

-- both schemes have the same verdict on each of these questions
abbrev pub Agree : (Question → Type 0) → Judge → Judge → Type 0
Agree Asked a b = (q : Question) → Asked q → verdict_on a q ≡ verdict_on b q
