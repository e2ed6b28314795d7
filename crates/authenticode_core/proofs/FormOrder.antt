-- The rules of the form: what meets them, and that each is reported by one error.
use Rattle.std.proofs.Common.{◌≡◌, ℕ, List, [], ◌∷◌, Some, None, length, sym, ap, subst, ◌∙◌}
use Rattle.asn1_types.specs.declared.oids.TheConstants.{SPC_INDIRECT_DATA}
use Rattle.cms_types.specs.SignedDataElements.{SignedDataElements}
use Rattle.cms_types.specs.SignerElements.{SignerElements}
use Rattle.der_core.specs.DerElement.{DerElement}
use Rattle.der_core.specs.Elements.{sequence}
use Rattle.der_core.specs.Rules.{IsMet}
use Rattle.der_core.proofs.RuleLists.{AreMet, IsReturnedOnce, AreReturnedOnce, NoneReturns}
use Rattle.authenticode_core.specs.FormRules.{HasForm, IsOfOtherVersion, HasOtherSigners, HasOtherAlgorithms, LacksContent}
use Rattle.authenticode_core.specs.FormRules.{HasOtherContent, ContentDiffers, SignerDiffers, FileDiffers, form_rules}
use Rattle.authenticode_core.specs.SameElements.{IsSameElement}
use Rattle.authenticode_core.specs.SignedFields.{HasVersion, HasSignedContent, HasIndirectData, IndirectData, IsFirstAlgorithm}
use Rattle.authenticode_core.specs.SignedFields.{IsFirstSigner, digest_algorithms_of, indirect_kids, signers_of}
use Rattle.authenticode_core.specs.declared.error.AuthenticodeError.TheVariants as errors
use Rattle.authenticode_core.proofs.FormFields.{version_once, content_once, indirect_once, algorithm_once, signer_once}

no_version : (number : ℕ) → errors.Memory ≡ errors.IncorrectVersion 1 number → ⊥
no_version number e = absurd cc

no_signers : {count : ℕ} → errors.Memory ≡ errors.MultipleSignerInfo count → ⊥
no_signers e = absurd cc

no_algorithms : {count : ℕ} → errors.Memory ≡ errors.IncorrectDigestAlgorithmsCount count → ⊥
no_algorithms e = absurd cc

no_content : errors.Memory ≡ errors.NoEncapsulatedContentInfo → ⊥
no_content e = absurd cc

no_indirect : errors.Memory ≡ errors.NoSpcIndirectDataContent → ⊥
no_indirect e = absurd cc

no_mismatch : errors.Memory ≡ errors.DigestAlgorithmMismatch → ⊥
no_mismatch e = absurd cc

module _ (f : SignedDataElements) where
  -- ---- what meets a rule

  pub version_met : HasVersion f 1 → IsMet (IsOfOtherVersion f)
  version_met has e broken = broken.2 (version_once f broken.0 1 broken.1 has)

  pub signers_met : length (signers_of f) ≡ 1 → IsMet (HasOtherSigners f)
  signers_met one e broken = broken.0 one

  pub algorithms_met : length (digest_algorithms_of f) ≡ 1 → IsMet (HasOtherAlgorithms f)
  algorithms_met one e broken = broken.0 one

  pub some_content_met : (content_type : List ℕ) (content : DerElement) → HasSignedContent f content_type (Some content) → IsMet (LacksContent f)
  some_content_met content_type content has e broken =
      let none : Some content ≡ None = (content_once f content_type broken.0 (Some content) None has broken.1).1 in
      absurd cc

  pub content_met : (d : IndirectData) → HasIndirectData f d → IsMet (LacksContent f)
  content_met d has = some_content_met SPC_INDIRECT_DATA.now (sequence (indirect_kids d)) has

  pub indirect_met : (d : IndirectData) → HasIndirectData f d → IsMet (HasOtherContent f)
  indirect_met d has e broken =
      broken.3 (sym (content_once f SPC_INDIRECT_DATA.now broken.0 (Some (sequence (indirect_kids d))) (Some broken.1) has broken.2).0)

  pub content_same_met : (algorithm : DerElement) (d : IndirectData) → IsFirstAlgorithm f algorithm → HasIndirectData f d → IsSameElement d.algorithm algorithm
      → IsMet (ContentDiffers f)
  content_same_met algorithm d first has same e broken =
      let a : algorithm ≡ broken.0 = algorithm_once f algorithm broken.0 first broken.2 in
      let b : d ≡ broken.1 = indirect_once f d broken.1 has broken.3 in
      broken.4 (subst (λ (x : DerElement). IsSameElement broken.1.algorithm x) a (subst (λ (x : IndirectData). IsSameElement x.algorithm algorithm) b same))

  pub signer_same_met : (algorithm : DerElement) (g : SignerElements) → IsFirstAlgorithm f algorithm → IsFirstSigner f g
      → IsSameElement g.digest_algorithm algorithm → IsMet (SignerDiffers f)
  signer_same_met algorithm g first is same e broken =
      let a : algorithm ≡ broken.0 = algorithm_once f algorithm broken.0 first broken.2 in
      let b : g ≡ broken.1 = signer_once f g broken.1 is broken.3 in
      broken.4 (subst (λ (x : DerElement). IsSameElement broken.1.digest_algorithm x) a
      (subst (λ (x : SignerElements). IsSameElement x.digest_algorithm algorithm) b same))

  pub form_met : (algorithm : DerElement) (d : IndirectData) (g : SignerElements) → HasForm f algorithm d g → AreMet (form_rules f)
  form_met algorithm d g form =
      let same : AreMet (ContentDiffers f ∷ SignerDiffers f ∷ []) = (
        content_same_met algorithm d form.first_algorithm form.indirect form.same_content,
        (signer_same_met algorithm g form.first_algorithm form.signer form.same_signer, tt),
      ) in
      let content : AreMet (LacksContent f ∷ HasOtherContent f ∷ ContentDiffers f ∷ SignerDiffers f ∷ []) =
      (content_met d form.indirect, (indirect_met d form.indirect, same)) in
      (version_met form.version, (signers_met form.one_signer, (algorithms_met form.one_algorithm, content)))

  -- ---- each is reported by one error

  version_returned : IsReturnedOnce (IsOfOtherVersion f)
  version_returned a b p q = p.3 ∙ ap (errors.IncorrectVersion 1) (version_once f p.0 q.0 p.1 q.1) ∙ sym q.3

  pub file_returned : (file_hash : List ℕ) → IsReturnedOnce (FileDiffers f file_hash)
  file_returned file_hash a b p q = p.3 ∙ ap (λ (d : IndirectData). errors.FileHashMismatch d.digest file_hash) (indirect_once f p.0 q.0 p.1 q.1) ∙ sym q.3

  pub form_returned : AreReturnedOnce (form_rules f)
  form_returned =
      let same : AreReturnedOnce (ContentDiffers f ∷ SignerDiffers f ∷ []) = ((λ a b p q. p.5 ∙ sym q.5), ((λ a b p q. p.5 ∙ sym q.5), tt)) in
      let content : AreReturnedOnce (LacksContent f ∷ HasOtherContent f ∷ ContentDiffers f ∷ SignerDiffers f ∷ []) =
      ((λ a b p q. p.2 ∙ sym q.2), ((λ a b p q. p.4 ∙ sym q.4), same)) in
      (version_returned, ((λ a b p q. p.1 ∙ sym q.1), ((λ a b p q. p.1 ∙ sym q.1), content)))

  -- ---- out of memory is never reported

  pub form_returns_no_memory : NoneReturns (form_rules f) errors.Memory
  form_returns_no_memory =
      let same : NoneReturns (ContentDiffers f ∷ SignerDiffers f ∷ []) errors.Memory = ((λ p. no_mismatch p.5), ((λ p. no_mismatch p.5), tt)) in
      let content : NoneReturns (LacksContent f ∷ HasOtherContent f ∷ ContentDiffers f ∷ SignerDiffers f ∷ []) errors.Memory =
      ((λ p. no_content p.2), ((λ p. no_indirect p.4), same)) in
      ((λ p. no_version p.0 p.3), ((λ p. no_signers p.1), ((λ p. no_algorithms p.1), content)))
