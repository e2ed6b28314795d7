-- The result of a check of a program, at each exit.
use Rattle.std.proofs.Common.{◌≡◌, ℕ, List, Option, Result, Err, sym, ap, subst, ◌∙◌}
use Rattle.der_core.specs.Rules.{AreOneUnlessMemory, IsFirstBroken}
use Rattle.key_core.specs.Verifying.{Judge}
use Rattle.pe_core.specs.Bound.{table_of}
use Rattle.pe_core.specs.Image.{IsSignedImage, image_rules}
use Rattle.pe_core.specs.declared.error.PeError.{PeError}
use Rattle.sig_core.specs.declared.hash.HashAlgorithm.{HashAlgorithm}
use Rattle.authenticode_core.specs.Basic.{RefusesValue}
use Rattle.authenticode_core.specs.Trusted.{IsAnswer, RefusesForm}
use Rattle.authenticode_core.specs.declared.accepted.Accepted.{Accepted}
use Rattle.authenticode_core.specs.declared.error.CheckError.{CheckError}
use Rattle.authenticode_core.specs.declared.error.CheckError.TheVariants as checks
use Rattle.authenticode_core.specs.declared.policy.Policy.{Policy}
use Rattle.authenticode_core.proofs.OneAnswer.{FaultsAreOne, FaultsExclude}
use Rattle.pe_image.specs.ImageHash.{IsImageHash, NamesImageDigest}
use Rattle.pe_image.specs.PeAnswer.{IsPeAnswer, policy_for}
use Rattle.pe_image.specs.declared.error.PeCheckError.{PeCheckError}
use Rattle.pe_image.specs.declared.error.PeCheckError.TheVariants.{Pe, Check, Memory}
use Rattle.pe_image.proofs.SignedTables.{unread}
use Rattle.pe_image.proofs.TableAnswers.{IsBrokenOnce, IsUnbroken, only_table, table_answer, returned, returned_value}

-- a file that is no image
pub broken_same : IsBrokenOnce → (octets : List ℕ) (e f : PeError) → IsFirstBroken (image_rules octets) e → IsFirstBroken (image_rules octets) f
    → ◌≡◌ {A = Result Accepted PeCheckError} (Err (Pe e)) (Err (Pe f))
broken_same once octets e f p q = ap (λ (x : PeError). Err (Pe x)) (once octets e f p q)

states_none : FaultsAreOne → FaultsExclude → (table : List ℕ) → (algorithm : HashAlgorithm) × NamesImageDigest table algorithm → (e : CheckError)
    → RefusesValue table e → ⊥
states_none at_most_one exclude table (algorithm, names) e refuses = unread at_most_one exclude table e refuses names.1.f names.1.signed

-- a digest is computed only of a file whose table begins with signed data
pub undigested : FaultsAreOne → FaultsExclude → (file octets : List ℕ) → file ≡ octets
    → (algorithm : HashAlgorithm) × NamesImageDigest (table_of file) algorithm
    → (e : CheckError) → RefusesValue (table_of octets) e → ⊥
undigested at_most_one exclude file octets same names e refuses =
    states_none at_most_one exclude (table_of file) names e (subst (λ (o : List ℕ). RefusesValue (table_of o) e) (sym same) refuses)

module _ (judge : Judge) (policy : Policy) (octets file table : List ℕ) (file_is : file ≡ octets) (table_is : table ≡ table_of file)
    (image : IsSignedImage octets) (hash : Option (List ℕ)) (hash_of : IsImageHash file hash) where
  hash_is : IsImageHash octets hash
  hash_is = subst (λ (o : List ℕ). IsImageHash o hash) file_is hash_of

  table_same : table ≡ table_of octets
  table_same = table_is ∙ ap (λ (o : List ℕ). table_of o) file_is

  -- the result is that for the table, as it is returned
  module _ (r : Result Accepted PeCheckError) (w : Result Accepted CheckError) (is : r ≡ returned w) where
    pub exit_answer : IsAnswer judge (policy_for policy hash) table w → IsPeAnswer judge policy octets r
    exit_answer answer =
        subst (λ (x : Result Accepted PeCheckError). IsPeAnswer judge policy octets x) (sym is)
        (table_answer judge policy octets image hash hash_is w (subst (λ (t : List ℕ). IsAnswer judge (policy_for policy hash) t w) table_same answer))

    pub exit_only : IsUnbroken
        → ((other : Result Accepted CheckError) → IsAnswer judge (policy_for policy hash) table other → AreOneUnlessMemory checks.Memory w other)
        → (other : Result Accepted PeCheckError) → IsPeAnswer judge policy octets other → AreOneUnlessMemory Memory r other
    exit_only unbroken only other k =
        subst (λ (x : Result Accepted PeCheckError). AreOneUnlessMemory Memory x other) (sym is)
        (only_table judge policy octets image hash hash_is unbroken w
        (λ o answer. only o (subst (λ (t : List ℕ). IsAnswer judge (policy_for policy hash) t o) (sym table_same) answer)) other k)

    pub exit_unread : ((e : CheckError) → RefusesForm (policy_for policy hash) table e → w ≡ Err e) → (e : CheckError) → RefusesValue (table_of octets) e
        → r ≡ Err (Check e)
    exit_unread refused e refuses =
        is ∙ returned_value (policy_for policy hash) table w refused e (subst (λ (t : List ℕ). RefusesValue t e) (sym table_same) refuses)
