-- The result for a signature file, from its octets and those of a trust list, if one is given.
use Rattle.std.specs.Prelude.{◌⊎◌, ℕ, List, [], ◌∷◌, Option, Some, None, Result, Err}
use Rattle.std.specs.Borrow.{Bor}
use Rattle.key_core.specs.Verifying.{Judge}
use Rattle.authenticode_core.specs.ListOctets.{IsTrustList, IsUnreadList}
use Rattle.authenticode_core.specs.Trusted.{IsAnswer}
use Rattle.authenticode_core.specs.declared.accepted.Accepted.{Accepted}
use Rattle.authenticode_core.specs.declared.ctl.CertificateTrustList.{CertificateTrustList}
use Rattle.authenticode_core.specs.declared.error.CheckError.{CheckError}
use Rattle.authenticode_core.specs.declared.policy.Policy.{Policy}
use Rattle.picky_check.specs.Report.{Answer, OfSignature, OfChain}

-- A result of the check of a signature file under a policy. It is a record, so that proofs pass it
-- on as one thing.
pub record IsCheckAnswer (judge : Judge) (policy : Policy) (octets : List ℕ)
    (given : Result Accepted CheckError) : Type 0 where
  pub is : IsAnswer judge policy octets given

-- a result for the octets of a signature file
abbrev pub IsSignatureAnswer : Judge → Policy → (octets : List ℕ) → Answer → Type 0
IsSignatureAnswer judge policy octets (OfSignature given) = IsCheckAnswer judge policy octets given
IsSignatureAnswer judge policy octets (OfChain given) = ⊥

-- ---- with a trust list

-- the octets aren't read as a list, and the answer is why
abbrev pub IsListRefusal : (octets : List ℕ) → Answer → Type 0
IsListRefusal octets (OfSignature (Err e)) = IsUnreadList octets e
IsListRefusal octets answer = ⊥

-- The result under a policy by its trust list: without one that of the check; else the octets of the
-- list aren't read, or the result is that of the check with what is read.
abbrev pub IsListAnswer : Judge → (Option (Bor CertificateTrustList) → Policy)
    → (octets : List ℕ) → (lists : List (List ℕ)) → Answer → Type 0
IsListAnswer judge policy octets [] answer = IsSignatureAnswer judge (policy None) octets answer
IsListAnswer judge policy octets (list_octets ∷ others) answer =
    IsListRefusal list_octets answer
    ⊎ ((list : Bor CertificateTrustList) × IsTrustList list_octets list.now
    × IsSignatureAnswer judge (policy (Some list)) octets answer)
