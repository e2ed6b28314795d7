-- What is answered of a program under a policy doesn't depend on where its trust list is borrowed
-- from.
use Rattle.std.proofs.Common.{◌≡◌, List, ℕ, Option, Result, Ok, Err}
use Rattle.std.specs.Borrow.{Bor}
use Rattle.std.specs.Option.{option_copied}
use Rattle.key_core.specs.Verifying.{Judge}
use Rattle.pe_core.specs.Bound.{table_of}
use Rattle.authenticode_core.specs.declared.accepted.Accepted.{Accepted}
use Rattle.authenticode_core.specs.declared.ctl.CertificateTrustList.{CertificateTrustList}
use Rattle.authenticode_core.specs.declared.error.CheckError.{CheckError}
use Rattle.authenticode_core.specs.declared.policy.Policy.{Policy}
use Rattle.authenticode_core.proofs.BorrowedLists.{answer_under, under}
use Rattle.pe_image.specs.PeAnswer.{IsPeAnswer, IsTableAnswer, policy_for}
use Rattle.pe_image.specs.declared.error.PeCheckError.{PeCheckError}
use Rattle.pe_image.specs.declared.error.PeCheckError.TheVariants.{Pe, Check, Memory}

module _ (judge : Judge) (p : Policy) (x y : Option (Bor CertificateTrustList)) (same : option_copied x ≡ option_copied y) (octets : List ℕ) where
  table_under : (r : Result Accepted CheckError) → IsTableAnswer judge (under p x) octets r → IsTableAnswer judge (under p y) octets r
  table_under r h = record {
    image = h.image;
    hash = h.hash;
    hash_is = h.hash_is;
    answer = answer_under judge (policy_for p h.hash) x y same (table_of octets) r h.answer;
  }

  pub program_under : (r : Result Accepted PeCheckError) → IsPeAnswer judge (under p x) octets r → IsPeAnswer judge (under p y) octets r
  program_under (Ok accepted) h = table_under (Ok accepted) h
  program_under (Err (Pe e)) h = h
  program_under (Err (Check e)) h = (table_under (Err e) h.0, h.1)
  program_under (Err Memory) h = tt
