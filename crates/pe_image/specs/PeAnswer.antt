-- Which result a check of a program has.
use Rattle.std.specs.Prelude.{◌≢◌, ⊤, ℕ, List, Option, Result, Ok, Err, true}
use Rattle.authenticode_core.specs.Trusted.{IsAnswer}
use Rattle.authenticode_core.specs.declared.accepted.Accepted.{Accepted}
use Rattle.authenticode_core.specs.declared.error.CheckError.{CheckError}
use Rattle.authenticode_core.specs.declared.error.CheckError.TheVariants as checks
use Rattle.authenticode_core.specs.declared.policy.Policy.{Policy}
use Rattle.der_core.specs.Rules.{IsFirstBroken}
use Rattle.key_core.specs.Verifying.{Judge}
use Rattle.pe_core.specs.Bound.{table_of}
use Rattle.pe_core.specs.Image.{IsSignedImage, image_rules}
use Rattle.pe_image.specs.ImageHash.{IsImageHash}
use Rattle.pe_image.specs.declared.error.PeCheckError.{PeCheckError}
use Rattle.pe_image.specs.declared.error.PeCheckError.TheVariants.{Pe, Check, Memory}

-- the same policy under basic validation, for a digest of the file or for none
abbrev pub policy_for : Policy → Option (List ℕ) → Policy
policy_for policy hash = record policy { basic = true; file_hash = hash }

-- The file is an image, and this is the result for the signature in its table under the policy for
-- its own digest.
pub record IsTableAnswer (judge : Judge) (policy : Policy) (octets : List ℕ)
    (result : Result Accepted CheckError) : Type 0 where
  pub image : IsSignedImage octets
  pub hash : Option (List ℕ)
  pub hash_is : IsImageHash octets hash
  pub answer : IsAnswer judge (policy_for policy hash) (table_of octets) result

-- The result: that the signature is trusted for the digest of the file; why the file is no image; a
-- refusal of the signature; out of memory.
abbrev pub IsPeAnswer : Judge → Policy → List ℕ → Result Accepted PeCheckError → Type 0
IsPeAnswer judge policy octets (Ok accepted) = IsTableAnswer judge policy octets (Ok accepted)
IsPeAnswer judge policy octets (Err (Pe e)) = IsFirstBroken (image_rules octets) e
IsPeAnswer judge policy octets (Err (Check e)) =
    IsTableAnswer judge policy octets (Err e) × (e ≢ checks.Memory)
IsPeAnswer judge policy octets (Err Memory) = ⊤
