-- The rules for the signer's certificate: each is reported by one error, and one that is vouched
-- for breaks none and has one report.
use Rattle.std.proofs.Common.{◌≡◌, ℕ, List, [], ◌∷◌, Bool, Some, true, false, IsTrue, refl, sym, ap, subst, ◌∙◌}
use Rattle.cms_types.specs.SignedDataElements.{SignedDataElements}
use Rattle.cms_types.specs.SignerElements.{SignerElements}
use Rattle.der_core.specs.Rules.{IsMet, IsFirstBroken}
use Rattle.der_core.proofs.RuleLists.{AreMet, AreReturnedOnce, IsReturnedOnce, met_together}
use Rattle.key_core.specs.Verifying.{Judge}
use Rattle.x509_core.proofs.OneLink.{returned_once, window_once}
use Rattle.x509_core.specs.OwnedCertificate.{KeptCertificate}
use Rattle.x509_core.specs.Link.{IsOutside}
use Rattle.x509_core.specs.Window.{window_rules}
use Rattle.x509_core.specs.declared.window.Window.{Window}
use Rattle.x509_types.specs.CertificateElements.{CertificateElements}
use Rattle.authenticode_core.specs.Inside.PolicySteps.{valid_and_vouched_rules, validity_rules}
use Rattle.authenticode_core.specs.LinkedPath.{IsPathAsked, IsUnlinkedAt}
use Rattle.authenticode_core.specs.Policy.{window_of}
use Rattle.authenticode_core.specs.SignerRules.{HasKeyName, HasUnknownName, IsBadlyStamped, IsKeptSigner, IsSignerVouched, IsValidAndVouched}
use Rattle.authenticode_core.specs.SignerRules.{IsUnbegun, IsUndated, IsUnexcused, IsUnvouched, IsValidOrExcusable, signer_rules}
use Rattle.authenticode_core.specs.SigningRules.{HasNoCertificate}
use Rattle.authenticode_core.specs.declared.accepted.Accepted.{Accepted}
use Rattle.authenticode_core.specs.declared.accepted.Excuse.{Excuse}
use Rattle.authenticode_core.specs.declared.accepted.Excuse.TheVariants as excuses
use Rattle.authenticode_core.specs.declared.error.AuthenticodeError.TheVariants as errors
use Rattle.authenticode_core.specs.declared.policy.Policy.{Policy}
use Rattle.authenticode_core.proofs.FormFields.{signer_once as first_once}
use Rattle.authenticode_core.proofs.OneExcuse.{reason_once, stamp_once}
use Rattle.authenticode_core.proofs.OnePath.{linked_is_not_broken, unlinked_once}
use Rattle.authenticode_core.proofs.OneSigning.{certificate_once, signer_once}
use Rattle.authenticode_core.proofs.SignerOrder.{dated_met, moved, named_met, named_rules, stamped_at, vouched_is_valid}
use Rattle.authenticode_core.proofs.SignerOrder.{unbegun_at, unexcused_at, unvouched_at, valid_or_expired, validity_met}
use Rattle.authenticode_core.proofs.WalkSteps.{one_path}

outside_once : (w : Window) (signer : KeptCertificate) → IsReturnedOnce (IsOutside w signer)
outside_once w signer = returned_once signer (IsFirstBroken (window_rules w signer.elements)) (window_once w signer.elements)

asked_or_not : (b : Bool) → b ≡ false → IsTrue b → ⊥
asked_or_not b off on = absurd cc

-- ---- each is reported by one error

pub key_name_once : (f : SignedDataElements) → IsReturnedOnce (HasKeyName f)
key_name_once f = λ a b p q. p.2.2 ∙ sym q.2.2

pub unknown_name_once : (f : SignedDataElements) → IsReturnedOnce (HasUnknownName f)
unknown_name_once f = λ a b p q.
    certificate_once f q.0 a b (subst (λ (g : SignerElements). HasNoCertificate f g a) (first_once f p.0 q.0 p.1 q.1) p.2) q.2

undated_once : (policy : Policy) → IsReturnedOnce (IsUndated policy)
undated_once policy = λ a b p q. p.2 ∙ ap errors.CertError (p.1.2 ∙ sym q.1.2) ∙ sym q.2

module _ (judge : Judge) (policy : Policy) (f : SignedDataElements) where
  unbegun_once : IsReturnedOnce (IsUnbegun policy f)
  unbegun_once = λ a b p q.
      let there = unbegun_at judge policy f p.bag p.place p.signer p.is b q in
      p.returned ∙ ap errors.CertError (outside_once (window_of policy) p.signer p.cause there.1 p.outside there.2) ∙ sym there.3

  unexcused_once : IsReturnedOnce (IsUnexcused policy f)
  unexcused_once = λ a b p q.
      let there = unexcused_at judge policy f p.bag p.place p.signer p.is b q in
      p.returned ∙ ap errors.CertError (outside_once (window_of policy) p.signer p.cause there.2 p.outside there.3) ∙ sym there.4

  stamped_once : IsReturnedOnce (IsBadlyStamped judge policy f)
  stamped_once = λ a b p q.
      stamp_once judge policy f p.bag p.signer.elements a b p.stamp (stamped_at judge policy f p.bag p.place p.signer p.is b q).1

  unvouched_once : IsReturnedOnce (IsUnvouched judge policy f)
  unvouched_once = λ a b p q.
      let there = unvouched_at judge policy f p.bag p.place p.signer p.is b q in
      let same = one_path p.bag p.signer.elements p.path there.1 p.is_path there.3 in
      let unlinked = subst (λ (path : List ℕ). IsUnlinkedAt judge (window_of policy) p.bag p.signer path p.cause) same p.unlinked in
      p.returned ∙ ap errors.CertError (unlinked_once judge (window_of policy) p.bag p.signer there.1 p.cause there.2 unlinked there.4) ∙ sym there.5

  pub signer_returned : AreReturnedOnce (signer_rules judge policy f)
  signer_returned =
      let determined : AreReturnedOnce (valid_and_vouched_rules judge policy f) = (unbegun_once, (unexcused_once, (stamped_once, (unvouched_once, tt)))) in
      (λ a b p q. p.1 ∙ sym q.1, (key_name_once f, (unknown_name_once f, (undated_once policy, determined))))

  -- ---- a certificate that is vouched for breaks none

  module _ (bag : List CertificateElements) (place : ℕ) (signer : KeptCertificate) (is : IsKeptSigner f bag place signer) where
    path_met : (path : List ℕ) (chain : Bool) → policy.chain ≡ chain → IsPathAsked chain judge (window_of policy) bag signer path
        → IsMet (IsUnvouched judge policy f)
    path_met path true on p = λ e broken.
        let there = unvouched_at judge policy f bag place signer is e broken in
        let same = one_path bag signer.elements there.1 path there.3 p.is_path in
        linked_is_not_broken judge (window_of policy) bag signer path there.2 p.linked
        (subst (λ (x : List ℕ). IsUnlinkedAt judge (window_of policy) bag signer x there.2) same there.4)
    path_met path false off p = λ e broken. asked_or_not policy.chain off broken.asked

    pub valid_and_vouched_met : (path : List ℕ) (excuse : Excuse) → IsValidAndVouched judge policy f bag signer path excuse
        → AreMet (valid_and_vouched_rules judge policy f)
    valid_and_vouched_met path excuse vouched =
        let valid = validity_met judge policy f bag place signer is excuse (vouched_is_valid judge policy f bag place signer is path excuse vouched) in
        met_together (validity_rules judge policy f) (IsUnvouched judge policy f ∷ []) valid (path_met path policy.chain refl vouched.path_is, tt)

    -- ---- and has one report

    same_asked : (chain : Bool) (p q : List ℕ) → IsPathAsked chain judge (window_of policy) bag signer p
        → IsPathAsked chain judge (window_of policy) bag signer q → p ≡ q
    same_asked true p q a b = one_path bag signer.elements p q a.is_path b.is_path
    same_asked false p q a b = a ∙ sym b

    same_excuse : (x y : Excuse) → IsValidOrExcusable judge policy f bag signer.elements x → IsValidOrExcusable judge policy f bag signer.elements y → x ≡ y
    same_excuse excuses.None excuses.None a b = refl
    same_excuse excuses.None excuses.Bag a b = absurd (valid_or_expired (window_of policy) signer.elements a b.0)
    same_excuse excuses.None excuses.Token a b = absurd (valid_or_expired (window_of policy) signer.elements a b.0)
    same_excuse excuses.Bag excuses.None a b = absurd (valid_or_expired (window_of policy) signer.elements b a.0)
    same_excuse excuses.Bag excuses.Bag a b = refl
    same_excuse excuses.Bag excuses.Token a b = reason_once judge policy f bag signer.elements excuses.Bag excuses.Token a.1 b.1
    same_excuse excuses.Token excuses.None a b = absurd (valid_or_expired (window_of policy) signer.elements b a.0)
    same_excuse excuses.Token excuses.Bag a b = reason_once judge policy f bag signer.elements excuses.Token excuses.Bag a.1 b.1
    same_excuse excuses.Token excuses.Token a b = refl

    pub valid_and_vouched_once : (p q : List ℕ) (x y : Excuse) → IsValidAndVouched judge policy f bag signer p x
        → IsValidAndVouched judge policy f bag signer q y → (p ≡ q) × (x ≡ y)
    valid_and_vouched_once p q x y a b =
        let excuse = same_excuse x y (vouched_is_valid judge policy f bag place signer is p x a) (vouched_is_valid judge policy f bag place signer is q y b) in
        (same_asked policy.chain p q a.path_is b.path_is, excuse)

  pub signer_met : (a : Accepted) → IsSignerVouched judge policy f a → AreMet (signer_rules judge policy f)
  signer_met a v =
      let behind : AreMet (IsUndated policy ∷ valid_and_vouched_rules judge policy f) =
      (dated_met policy v.dated, valid_and_vouched_met v.bag v.place v.signer v.is a.path a.excuse v.valid) in
      met_together (named_rules f) (IsUndated policy ∷ valid_and_vouched_rules judge policy f)
      (named_met f v.bag v.place v.signer.elements v.is.is_bag v.is.is_signer) behind

  pub same_accepted : (a b : Accepted) → a.signer ≡ b.signer → a.path ≡ b.path → a.excuse ≡ b.excuse → a ≡ b
  same_accepted a b signer path excuse = λ i. record { signer = signer i; path = path i; excuse = excuse i }

  pub vouched_once : (a b : Accepted) → IsSignerVouched judge policy f a → IsSignerVouched judge policy f b → a ≡ b
  vouched_once a b v w =
      let place : v.place ≡ w.place =
      (signer_once f v.bag w.bag v.place w.place v.signer.elements w.signer.elements v.is.is_bag w.is.is_bag v.is.is_signer w.is.is_signer).0 in
      let there = moved (λ (bag : List CertificateElements) (signer : KeptCertificate). IsValidAndVouched judge policy f bag signer b.path b.excuse)
      f w.bag v.bag w.place v.place w.signer v.signer w.is v.is w.valid in
      let same = valid_and_vouched_once v.bag v.place v.signer v.is a.path b.path a.excuse b.excuse v.valid there in
      same_accepted a b (v.place_is ∙ ap Some place ∙ sym w.place_is) same.0 same.1
