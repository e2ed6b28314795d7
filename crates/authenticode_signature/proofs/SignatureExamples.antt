-- Small histories, worked out: which ancestors a signature keeps, and which files are accepted.
use Rattle.std.proofs.Common.{◌≡◌, ℕ, Bool, true, false, List, [], ◌∷◌, ◌++◌, Option, Some, None, Result, Ok, inl, inr, refl, sym, ap, subst}
use Rattle.std.specs.Prelude.{ℤ}
use Rattle.asn1_types.specs.declared.generalized_time.GeneralizedTime.{GeneralizedTime}
use Rattle.cms_types.specs.SignedDataElements.{SignedDataElements}
use Rattle.der_core.specs.Rules.{AreOneUnlessMemory}
use Rattle.key_core.specs.Verifying.{Judge}
use Rattle.x509_core.specs.History.{IssuingStep, History, HasStep, IsDuring, IsAllowed, AreAllowed}
use Rattle.x509_core.specs.OwnedCertificate.{KeptCertificate}
use Rattle.x509_core.specs.Window.{IsEarlier}
use Rattle.x509_core.proofs.Histories.{step_once}
use Rattle.x509_core.proofs.Rows.{holds_of_row}
use Rattle.x509_types.specs.CertificateElements.{CertificateElements}
use Rattle.authenticode_core.specs.Basic.{VouchesFor}
use Rattle.authenticode_core.specs.SigningRules.{IsBagOf}
use Rattle.authenticode_core.specs.Trusted.{IsTrusted}
use Rattle.authenticode_core.specs.declared.accepted.Accepted.{Accepted}
use Rattle.authenticode_core.specs.declared.error.CheckError.{CheckError}
use Rattle.authenticode_core.specs.declared.error.CheckError.TheVariants.{Memory}
use Rattle.authenticode_parts.specs.Carried.{AreCarried, elements_of}
use Rattle.authenticode_signature.specs.HistorySignature.{IsSignerOf, all_checks_at, by_the_first_over}
use Rattle.authenticode_signature.specs.KeptAncestors.{AreKeptOf, IsOfAuthority, IsWithAncestors}
use Rattle.authenticode_signature.specs.MadeFile.{IsCheckedBy}
use Rattle.authenticode_signature.proofs.HistorySignatures.{trusted, allowed}
use Rattle.authenticode_signature.proofs.KeptAncestors.{made_decided, one_last}

last_first : (xs : List ℕ) (x y z : ℕ) → x ∷ y ∷ [] ≡ xs ++ z ∷ [] → xs ≡ x ∷ []
last_first [] x y z e = absurd cc
last_first (a ∷ []) x y z e = let same : a ≡ x = cc in ap (λ (n : ℕ). n ∷ []) same
last_first (a ∷ b ∷ []) x y z e = absurd cc
last_first (a ∷ b ∷ c ∷ xs) x y z e = absurd cc

-- At the date all steps below are valid but the root that has ended.
module _ (start end date last : GeneralizedTime) (begun : IsEarlier date start → ⊥) (lasts : IsEarlier last date → ⊥) (over : IsEarlier end date) where
  abbrev step_by : Option ℕ → Bool → Option ℕ → GeneralizedTime → IssuingStep
  step_by issuer ca pathlen until = record { issuer = issuer; ca = ca; pathlen = pathlen; not_before = start; not_after = until }

  during : (issuer : Option ℕ) (ca : Bool) (pathlen : Option ℕ) → IsDuring (step_by issuer ca pathlen last) date
  during issuer ca pathlen = record { begun = begun; lasts = lasts }

  unlimited : (limit : ℕ) → None ≡ Some limit → ⊥
  unlimited limit e = absurd cc

  -- a CA without a path length is allowed anywhere
  ca_allowed : (history : History) (number index : ℕ) (issuer : Option ℕ) → HasStep history index (step_by issuer true None last)
      → (step : IssuingStep) → HasStep history index step → IsAllowed date number step
  ca_allowed history number index issuer is step has =
      subst (IsAllowed date number) (step_once history index (step_by issuer true None last) step is has)
      (record { authority = refl; depth = λ limit e. absurd (unlimited limit e); valid = during issuer true None })

  -- ---- a root that has ended, a CA below it that hasn't, and a leaf of that

  abbrev outlived : History
  outlived = step_by None true None end ∷ step_by (Some 0) true None last ∷ step_by (Some 1) false None last ∷ []

  root_is_authority : IsOfAuthority outlived 0
  root_is_authority = (step_by None true None end, refl, refl)

  -- a signature keeps the CA, and not the root
  pub root_is_left_out : AreKeptOf outlived (1 ∷ 0 ∷ []) (1 ∷ [])
  root_is_left_out = inl (0, refl, root_is_authority)

  pub nothing_else_is_kept : (kept : List ℕ) → AreKeptOf outlived (1 ∷ 0 ∷ []) kept → kept ≡ 1 ∷ []
  nothing_else_is_kept kept (inl (root, are, of)) = last_first kept 1 0 root are
  nothing_else_is_kept kept (inr (are, none)) = absurd (none (1 ∷ []) 0 refl root_is_authority)

  ca_is_allowed : AreAllowed outlived date (1 ∷ [])
  ca_is_allowed number ancestor step at has =
      holds_of_row (λ (n i : ℕ). (s : IssuingStep) → HasStep outlived i s → IsAllowed date n s) (1 ∷ []) (ca_allowed outlived 0 1 (Some 0) refl, tt)
      number ancestor at step has

  module _ (judge : Judge) (certificates : List KeptCertificate) (leaf ca root : KeptCertificate) (now : ℤ) (file_hash : List ℕ) where
    -- the file of such a signature is accepted after the root has ended
    pub accepted_after_its_root : (carried : List CertificateElements) (octets : List ℕ) (answer : Result Accepted CheckError)
        → IsWithAncestors judge outlived certificates 2 (1 ∷ 0 ∷ []) leaf (ca ∷ root ∷ [])
        → AreCarried (elements_of (leaf ∷ ca ∷ root ∷ [])) (leaf.elements ∷ carried)
        → IsCheckedBy judge (all_checks_at date now file_hash) (leaf.elements ∷ carried) octets file_hash answer
        → AreOneUnlessMemory Memory answer (Ok (by_the_first_over {A = ℕ} (1 ∷ [])))
    accepted_after_its_root carried octets answer w are by =
        let d = made_decided judge outlived certificates 2 (step_by (Some 1) false None last) (1 ∷ 0 ∷ []) leaf (ca ∷ root ∷ []) carried date now octets
        file_hash answer w refl (during (Some 1) false None) are by in
        let one : d.0 ≡ 1 ∷ [] = nothing_else_is_kept d.0 d.1 in
        subst (λ (kept : List ℕ). AreOneUnlessMemory Memory answer (Ok (by_the_first_over kept))) one
        (d.2.allowed (subst (AreAllowed outlived date) (sym one) ca_is_allowed))

    -- signed data with the leaf and the CA is trusted as well
    pub trusted_without_its_root : (f : SignedDataElements) → IsSignerOf judge outlived certificates date (1 ∷ []) leaf (ca ∷ [])
        → IsBagOf f (elements_of (leaf ∷ ca ∷ [])) → VouchesFor judge f file_hash 0
        → IsTrusted judge (all_checks_at date now file_hash) f (by_the_first_over (ca ∷ []))
    trusted_without_its_root f s bag vouches =
        trusted judge outlived certificates date (1 ∷ []) leaf (ca ∷ []) now file_hash f s bag vouches ca_is_allowed

    -- with the root it isn't
    pub not_trusted_with_its_root : (f : SignedDataElements) (a : Accepted) → IsSignerOf judge outlived certificates date (1 ∷ 0 ∷ []) leaf (ca ∷ root ∷ [])
        → IsBagOf f (elements_of (leaf ∷ ca ∷ root ∷ [])) → VouchesFor judge f file_hash 0 → IsTrusted judge (all_checks_at date now file_hash) f a → ⊥
    not_trusted_with_its_root f a s bag vouches t =
        (allowed judge outlived certificates date (1 ∷ 0 ∷ []) leaf (ca ∷ root ∷ []) now file_hash f s bag vouches a t 1 0 (step_by None true None end)
        refl refl).valid.lasts over

  -- ---- a root that isn't a CA, and a leaf of it

  abbrev bare : History
  bare = step_by None false None last ∷ step_by (Some 0) false None last ∷ []

  false_is_true : false ≡ true → ⊥
  false_is_true e = absurd cc

  not_authority : IsOfAuthority bare 0 → ⊥
  not_authority by = false_is_true (subst (λ (s : IssuingStep). s.ca ≡ true) (sym (step_once bare 0 (step_by None false None last) by.0 refl by.1)) by.2)

  -- a signature keeps it
  pub root_is_kept : (kept : List ℕ) → AreKeptOf bare (0 ∷ []) kept → kept ≡ 0 ∷ []
  root_is_kept kept (inl (root, are, of)) = absurd (not_authority (subst (IsOfAuthority bare) (sym (one_last kept root 0 are)) of))
  root_is_kept kept (inr (are, none)) = are

  -- and no such file is accepted
  pub never_accepted : (judge : Judge) (certificates : List KeptCertificate) (leaf root : KeptCertificate) (now : ℤ) (carried : List CertificateElements)
      (octets file_hash : List ℕ) (a : Accepted) → IsWithAncestors judge bare certificates 1 (0 ∷ []) leaf (root ∷ [])
      → AreCarried (elements_of (leaf ∷ root ∷ [])) (leaf.elements ∷ carried)
      → IsCheckedBy judge (all_checks_at date now file_hash) (leaf.elements ∷ carried) octets file_hash (Ok a) → ⊥
  never_accepted judge certificates leaf root now carried octets file_hash a w are by =
      let d = made_decided judge bare certificates 1 (step_by (Some 0) false None last) (0 ∷ []) leaf (root ∷ []) carried date now octets file_hash (Ok a)
      w refl (during (Some 0) false None) are by in
      let row = subst (AreAllowed bare date) (root_is_kept d.0 d.1) d.2.accepted.1 in
      false_is_true (row 0 0 (step_by None false None last) refl refl).authority
