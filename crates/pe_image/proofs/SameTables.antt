-- A program under two schemes that check its certificate table alike.
use Rattle.std.proofs.Common.{ℕ, List, Option, Result, Ok, Err}
use Rattle.key_core.specs.Verifying.{Judge}
use Rattle.authenticode_core.specs.Trusted.{IsAnswer}
use Rattle.authenticode_core.specs.declared.accepted.Accepted.{Accepted}
use Rattle.authenticode_core.specs.declared.error.CheckError.{CheckError}
use Rattle.authenticode_core.specs.declared.policy.Policy.{Policy}
use Rattle.pe_core.specs.Bound.{table_of}
use Rattle.pe_image.specs.PeAnswer.{IsPeAnswer, IsTableAnswer, policy_for}
use Rattle.pe_image.specs.declared.error.PeCheckError.{PeCheckError}
use Rattle.pe_image.specs.declared.error.PeCheckError.TheVariants.{Pe, Check, Memory}

module _ (a b : Judge) (policy : Policy) (octets : List ℕ)
    (same : (hash : Option (List ℕ)) (answer : Result Accepted CheckError) → IsAnswer a (policy_for policy hash) (table_of octets) answer
    → IsAnswer b (policy_for policy hash) (table_of octets) answer) where
  table_answered : (answer : Result Accepted CheckError) → IsTableAnswer a policy octets answer → IsTableAnswer b policy octets answer
  table_answered answer h = record { image = h.image; hash = h.hash; hash_is = h.hash_is; answer = same h.hash answer h.answer }

  pub answered : (result : Result Accepted PeCheckError) → IsPeAnswer a policy octets result → IsPeAnswer b policy octets result
  answered (Ok accepted) h = table_answered (Ok accepted) h
  answered (Err (Pe e)) h = h
  answered (Err (Check e)) h = (table_answered (Err e) h.0, h.1)
  answered (Err Memory) h = h
