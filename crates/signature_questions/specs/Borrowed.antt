-- Borrowed questions.
use Rattle.std.specs.Prelude.{ℕ, List, ◌∷◌, Option, Some, None}
use Rattle.signature_questions.specs.Question.{Question}
use Rattle.signature_questions.specs.declared.message.Message.{Message}
use Rattle.signature_questions.specs.declared.question.Question.{Question as BorrowedQuestion}

-- the octets of a message
abbrev pub message_octets : Message → List ℕ
message_octets message = message.first ∷ message.rest.now

-- what a borrowed question asks
abbrev pub asked : BorrowedQuestion → Question
asked q = record {
  algorithm = q.algorithm;
  key = q.key.now;
  message = message_octets q.message;
  signature = q.signature.now;
}

-- the same, if there is one
abbrev pub asked_option : Option BorrowedQuestion → Option Question
asked_option None = None
asked_option (Some q) = Some (asked q)
