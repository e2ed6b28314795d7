-- The result for a program, from its octets and those of a trust list, if one is given.
use Rattle.std.specs.Prelude.{◌≡◌, ◌⊎◌, ℕ, List, [], ◌∷◌, Option, Some, None, Result, Ok, Err}
use Rattle.std.specs.Borrow.{Bor}
use Rattle.key_core.specs.Verifying.{Judge}
use Rattle.authenticode_core.specs.ListOctets.{IsTrustList, IsUnreadList}
use Rattle.authenticode_core.specs.declared.accepted.Accepted.{Accepted}
use Rattle.authenticode_core.specs.declared.ctl.CertificateTrustList.{CertificateTrustList}
use Rattle.authenticode_core.specs.declared.error.CheckError.{CheckError}
use Rattle.authenticode_core.specs.declared.policy.Policy.{Policy}
use Rattle.pe_image.specs.PeAnswer.{IsPeAnswer}
use Rattle.pe_image.specs.Refusals.{of_check}
use Rattle.pe_image.specs.declared.error.PeCheckError.{PeCheckError}

-- A result of the check of a program under a policy. It is a record, so that proofs pass it on as
-- one thing.
pub record IsProgramAnswer (judge : Judge) (policy : Policy) (octets : List ℕ)
    (result : Result Accepted PeCheckError) : Type 0 where
  pub is : IsPeAnswer judge policy octets result

-- the octets aren't read as a list, and this is returned
abbrev pub IsListRefusal : (octets : List ℕ) → Result Accepted PeCheckError → Type 0
IsListRefusal octets (Ok accepted) = ⊥
IsListRefusal octets (Err e) =
    (cause : CheckError) × IsUnreadList octets cause × (e ≡ of_check cause)

-- The result under a policy by its trust list: without one that of the check; else the octets of
-- the list aren't read, or the result is that of the check with what is read.
abbrev pub IsListAnswer : Judge → (Option (Bor CertificateTrustList) → Policy)
    → (octets : List ℕ) → (lists : List (List ℕ)) → Result Accepted PeCheckError → Type 0
IsListAnswer judge policy octets [] result = IsProgramAnswer judge (policy None) octets result
IsListAnswer judge policy octets (list_octets ∷ others) result =
    IsListRefusal list_octets result
    ⊎ ((list : Bor CertificateTrustList) × IsTrustList list_octets list.now
    × IsProgramAnswer judge (policy (Some list)) octets result)
