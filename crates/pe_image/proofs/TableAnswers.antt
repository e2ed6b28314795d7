-- The result for a program from that for its table.
use Rattle.std.proofs.Common.{◌≡◌, ◌≢◌, ℕ, List, Option, Result, Ok, Err, inl, inr, refl, ap, subst, ◌∙◌}
use Rattle.der_core.specs.Rules.{AreOneUnlessMemory, IsFirstBroken}
use Rattle.key_core.specs.Verifying.{Judge}
use Rattle.pe_core.specs.Bound.{table_of}
use Rattle.pe_core.specs.Image.{IsSignedImage, image_rules}
use Rattle.pe_core.specs.declared.error.PeError.{PeError}
use Rattle.authenticode_core.specs.Basic.{RefusesValue}
use Rattle.authenticode_core.specs.Trusted.{IsAnswer, RefusesForm}
use Rattle.authenticode_core.specs.declared.accepted.Accepted.{Accepted}
use Rattle.authenticode_core.specs.declared.error.CheckError.{CheckError}
use Rattle.authenticode_core.specs.declared.error.CheckError.TheVariants as checks
use Rattle.authenticode_core.specs.declared.policy.Policy.{Policy}
use Rattle.authenticode_core.proofs.OneAnswer.{value_refuses}
use Rattle.pe_image.specs.ImageHash.{IsImageHash}
use Rattle.pe_image.specs.PeAnswer.{IsPeAnswer, IsTableAnswer, policy_for}
use Rattle.pe_image.specs.Refusals.{of_check}
use Rattle.pe_image.specs.declared.error.PeCheckError.{PeCheckError}
use Rattle.pe_image.specs.declared.error.PeCheckError.TheVariants.{Pe, Check, Memory}
use Rattle.pe_image.proofs.ImageHashes.{one_hash}

-- the result for the table, as it is returned
abbrev pub returned : Result Accepted CheckError → Result Accepted PeCheckError
returned (Ok accepted) = Ok accepted
returned (Err e) = Err (of_check e)

returned_so : (e : CheckError) → e ≢ checks.Memory → of_check e ≡ Check e
returned_so (checks.Win e) other = refl
returned_so (checks.Authenticode e) other = refl
returned_so checks.Memory other = absurd (other refl)

error_of : (a b : CheckError) → ◌≡◌ {A = Result Accepted CheckError} (Err a) (Err b) → a ≡ b
error_of a b e = cc

value_returned : (table : List ℕ) (e : CheckError) → RefusesValue table e → of_check e ≡ Check e
value_returned table (checks.Win e) refuses = refl
value_returned table (checks.Authenticode e) refuses = refl
value_returned table checks.Memory refuses = absurd refuses

-- a refusal of what the certificate is, as it is returned
pub returned_value : (policy : Policy) (table : List ℕ) (result : Result Accepted CheckError) → ((e : CheckError) → RefusesForm policy table e → result ≡ Err e)
    → (e : CheckError) → RefusesValue table e → returned result ≡ Err (Check e)
returned_value policy table result refused e refuses =
    ap returned (refused e (value_refuses policy table e refuses)) ∙ ap Err (value_returned table e refuses)

-- A signed image breaks no rule.
abbrev pub IsUnbroken : Type 0
IsUnbroken = (octets : List ℕ) (e : PeError) → IsSignedImage octets → IsFirstBroken (image_rules octets) e → ⊥

abbrev pub IsBrokenOnce : Type 0
IsBrokenOnce = (octets : List ℕ) (a b : PeError) → IsFirstBroken (image_rules octets) a → IsFirstBroken (image_rules octets) b → a ≡ b

module _ (judge : Judge) (policy : Policy) (octets : List ℕ) where
  -- a file that is no image
  pub only_broken : IsUnbroken → IsBrokenOnce → (e : PeError) → IsFirstBroken (image_rules octets) e
      → (other : Result Accepted PeCheckError) → IsPeAnswer judge policy octets other → AreOneUnlessMemory Memory (Err (Pe e)) other
  only_broken unbroken once e broken (Ok accepted) k = absurd (unbroken octets e k.image broken)
  only_broken unbroken once e broken (Err (Pe f)) k = inl (ap (λ (x : PeError). Err (Pe x)) (once octets e f broken k))
  only_broken unbroken once e broken (Err (Check f)) k = absurd (unbroken octets e k.0.image broken)
  only_broken unbroken once e broken (Err Memory) k = inr (inr refl)

  module _ (image : IsSignedImage octets) (hash : Option (List ℕ)) (hash_is : IsImageHash octets hash) where
    in_table : (result : Result Accepted CheckError) → IsAnswer judge (policy_for policy hash) (table_of octets) result
        → IsTableAnswer judge policy octets result
    in_table result answer = record { image = image; hash = hash; hash_is = hash_is; answer = answer }

    pub table_answer : (result : Result Accepted CheckError) → IsAnswer judge (policy_for policy hash) (table_of octets) result
        → IsPeAnswer judge policy octets (returned result)
    table_answer (Ok accepted) answer = in_table (Ok accepted) answer
    table_answer (Err (checks.Win e)) answer = (in_table (Err (checks.Win e)) answer, (λ same. absurd cc))
    table_answer (Err (checks.Authenticode e)) answer = (in_table (Err (checks.Authenticode e)) answer, (λ same. absurd cc))
    table_answer (Err checks.Memory) answer = tt

    of_table : (result : Result Accepted CheckError) → IsTableAnswer judge policy octets result
        → IsAnswer judge (policy_for policy hash) (table_of octets) result
    of_table result t =
        subst (λ (h : Option (List ℕ)). IsAnswer judge (policy_for policy h) (table_of octets) result) (one_hash octets t.hash hash t.hash_is hash_is) t.answer

    accepted_one : (result : Result Accepted CheckError) (accepted : Accepted) → AreOneUnlessMemory checks.Memory result (Ok accepted)
        → AreOneUnlessMemory Memory (returned result) (Ok accepted)
    accepted_one result accepted (inl same) = inl (ap returned same)
    accepted_one result accepted (inr (inl memory)) = inr (inl (ap returned memory))
    accepted_one result accepted (inr (inr memory)) = absurd cc

    refused_one : (result : Result Accepted CheckError) (e : CheckError) → e ≢ checks.Memory → AreOneUnlessMemory checks.Memory result (Err e)
        → AreOneUnlessMemory Memory (returned result) (Err (Check e))
    refused_one result e other (inl same) = inl (ap returned same ∙ ap Err (returned_so e other))
    refused_one result e other (inr (inl memory)) = inr (inl (ap returned memory))
    refused_one result e other (inr (inr memory)) = absurd (other (error_of e checks.Memory memory))

    pub only_table : IsUnbroken → (result : Result Accepted CheckError)
        → ((other : Result Accepted CheckError) → IsAnswer judge (policy_for policy hash) (table_of octets) other
        → AreOneUnlessMemory checks.Memory result other)
        → (other : Result Accepted PeCheckError) → IsPeAnswer judge policy octets other → AreOneUnlessMemory Memory (returned result) other
    only_table unbroken result only (Ok accepted) k = accepted_one result accepted (only (Ok accepted) (of_table (Ok accepted) k))
    only_table unbroken result only (Err (Pe e)) k = absurd (unbroken octets e image k)
    only_table unbroken result only (Err (Check e)) k = refused_one result e k.1 (only (Err e) (of_table (Err e) k.0))
    only_table unbroken result only (Err Memory) k = inr (inr refl)
