-- When the signed data of a signature file is trusted under a policy, and which result is returned.
use Rattle.std.specs.Prelude.{◌≡◌, ⊤, ◌⊎◌, Bool, ℕ, List, [], ◌∷◌, ◌++◌, Option, Some, None, Result, Ok, Err, true, false, IsTrue}
use Rattle.cms_types.specs.SignedDataElements.{SignedDataElements}
use Rattle.der_core.specs.Rules.{Rule, IsFirstBroken}
use Rattle.key_core.specs.Verifying.{Judge}
use Rattle.wincert_core.specs.Refusal.{contents_in}
use Rattle.authenticode_core.specs.Basic.{HasSignedData, IsRefusedPart, IsUnreadSignature, VouchesFor}
use Rattle.authenticode_core.specs.FormRules.{form_rules}
use Rattle.authenticode_core.specs.ListRules.{IsSignerListed, ca_rules}
use Rattle.authenticode_core.specs.SignerRules.{IsSignerVouched, signer_rules}
use Rattle.authenticode_core.specs.declared.accepted.Accepted.{Accepted}
use Rattle.authenticode_core.specs.declared.accepted.Excuse.TheVariants as excuses
use Rattle.authenticode_core.specs.declared.error.AuthenticodeError.{AuthenticodeError}
use Rattle.authenticode_core.specs.declared.error.AuthenticodeError.TheVariants as errors
use Rattle.authenticode_core.specs.declared.error.CheckError.{CheckError}
use Rattle.authenticode_core.specs.declared.error.CheckError.TheVariants.{Win, Authenticode, Memory}
use Rattle.authenticode_core.specs.declared.policy.Policy.{Policy}

-- Basic validation: a digest of the file is given, the signed data vouches for it, and the index of
-- the signer's certificate is reported.
pub record IsBasicallyVouched (judge : Judge) (file_hash : Option (List ℕ)) (f : SignedDataElements)
    (a : Accepted) : Type 0 where
  pub hash : List ℕ
  pub given : file_hash ≡ Some hash
  pub place : ℕ
  pub vouches : VouchesFor judge f hash place
  pub place_is : a.signer ≡ Some place

-- The signed data is trusted under the policy, and this is reported of it.
pub record IsTrusted (judge : Judge) (policy : Policy) (f : SignedDataElements)
    (a : Accepted) : Type 0 where
  pub basic : IsTrue policy.basic → IsBasicallyVouched judge policy.file_hash f a
  pub signing : IsTrue policy.signing → IsSignerVouched judge policy f a
  pub listed : IsTrue policy.against_list → IsSignerListed policy f a
  -- if the signer's certificate isn't checked, no path and no excuse are reported, and its index
  -- only under basic validation or `against_list`
  pub pathless : policy.signing ≡ false → (a.path ≡ []) × (a.excuse ≡ excuses.None)
  pub placeless : policy.basic ≡ false → policy.signing ≡ false → policy.against_list ≡ false
      → a.signer ≡ None

-- ---- rules, in order

-- no digest of the file is given
abbrev pub LacksHash : Option (List ℕ) → Rule AuthenticodeError
LacksHash file_hash e = (file_hash ≡ None) × (e ≡ errors.MissingExpectedFileHash)

-- the digest of the file, or the signature, breaks its first rule
abbrev pub IsRefusedFor : Judge → SignedDataElements → Option (List ℕ) → Rule AuthenticodeError
IsRefusedFor judge f file_hash e =
    (hash : List ℕ) × (file_hash ≡ Some hash) × IsRefusedPart judge f hash e

-- the form, and that a digest is given
abbrev pub shape_rules : SignedDataElements → Option (List ℕ) → List (Rule AuthenticodeError)
shape_rules f file_hash = form_rules f ++ LacksHash file_hash ∷ []

-- The rules of basic validation, in order.
abbrev pub basic_rules : Judge → SignedDataElements → Option (List ℕ)
    → List (Rule AuthenticodeError)
basic_rules judge f file_hash = shape_rules f file_hash ++ IsRefusedFor judge f file_hash ∷ []

-- these rules if they are checked
abbrev pub asked : Bool → List (Rule AuthenticodeError) → List (Rule AuthenticodeError)
asked true rules = rules
asked false rules = []

-- The rules of a policy: those of basic validation, then those of the signer's certificate, then
-- those of its CA.
abbrev pub policy_rules : Judge → Policy → SignedDataElements → List (Rule AuthenticodeError)
policy_rules judge policy f =
    asked policy.basic (basic_rules judge f policy.file_hash)
    ++ (asked policy.signing (signer_rules judge policy f)
    ++ asked policy.against_list (ca_rules policy f))

-- ---- results

-- Why the octets are refused for their header, for what their certificate is, or, if basic
-- validation is checked, for the form of the signed data or a missing digest of the file. It is
-- never out of memory.
abbrev pub RefusesForm : Policy → List ℕ → CheckError → Type 0
RefusesForm policy octets (Win e) = contents_in octets ≡ Err e
RefusesForm policy octets (Authenticode e) =
    IsUnreadSignature octets e
    ⊎ ((f : SignedDataElements) × HasSignedData octets f
    × IsFirstBroken (asked policy.basic (shape_rules f policy.file_hash)) e)
RefusesForm policy octets Memory = ⊥

-- The result: that the signed data is trusted; a refusal with its cause, the first in order; out of
-- memory.
abbrev pub IsAnswer : Judge → Policy → List ℕ → Result Accepted CheckError → Type 0
IsAnswer judge policy octets (Ok accepted) =
    (f : SignedDataElements) × HasSignedData octets f × IsTrusted judge policy f accepted
IsAnswer judge policy octets (Err (Win e)) = contents_in octets ≡ Err e
IsAnswer judge policy octets (Err (Authenticode e)) =
    IsUnreadSignature octets e
    ⊎ ((f : SignedDataElements) × HasSignedData octets f
    × IsFirstBroken (policy_rules judge policy f) e)
IsAnswer judge policy octets (Err Memory) = ⊤
