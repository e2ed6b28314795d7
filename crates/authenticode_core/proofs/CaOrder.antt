-- The rules for the CA of the signer: what meets them, that each reports one error, and which is broken
-- first.
use Rattle.std.proofs.Common.{◌≡◌, ◌⊎◌, ℕ, List, [], ◌∷◌, Option, Some, None, Result, Ok, Err, MatchResult, inl, inr, refl, sym, ap, subst, ◌∙◌}
use Rattle.std.specs.Option.{option_copied}
use Rattle.cms_types.specs.SignedDataElements.{SignedDataElements}
use Rattle.cms_types.specs.SignerElements.{SignerElements}
use Rattle.der_core.specs.DerElement.{DerElement}
use Rattle.der_core.specs.Rules.{IsFirstBroken, IsMet}
use Rattle.der_core.proofs.RuleLists.{AreMet, AreReturnedOnce, IsReturnedOnce, broken_behind, met_together}
use Rattle.x509_types.specs.CertificateElements.{CertificateElements}
use Rattle.authenticode_core.specs.AuthorityName.{IsNameAt}
use Rattle.authenticode_core.specs.Inside.PolicySteps.{IsListedAt}
use Rattle.authenticode_core.specs.Inside.SigningSteps.{HasSigner}
use Rattle.authenticode_core.specs.IssuerWalk.{IsIssuerWalk}
use Rattle.authenticode_core.specs.ListRules.{HasUntrustedCa, IsExcluded, IsOffList, IsSignerCa, IsSignerListed, IsTrustedCa, IsTrustedCaOf, ca_rules}
use Rattle.authenticode_core.specs.Names.{HasSubject}
use Rattle.authenticode_core.specs.Indices.{HasNoPlace}
use Rattle.authenticode_core.specs.SignedFields.{IsFirstSigner}
use Rattle.authenticode_core.specs.SigningRules.{HasNoCertificate, IsNamedByKey, RefusesAuthenticodeBy}
use Rattle.authenticode_core.specs.TrustList.{IsOnList, name_rules}
use Rattle.authenticode_core.specs.declared.accepted.Accepted.{Accepted}
use Rattle.authenticode_core.specs.declared.ctl.CertificateTrustList.{CertificateTrustList}
use Rattle.authenticode_core.specs.declared.error.AuthenticodeError.{AuthenticodeError}
use Rattle.authenticode_core.specs.declared.error.AuthenticodeError.TheVariants as errors
use Rattle.authenticode_core.specs.declared.policy.Policy.{Policy}
use Rattle.authenticode_core.proofs.GivenLists.{given_once, none_given}
use Rattle.authenticode_core.proofs.OnList.{name_returned_once, on_list_unbroken}
use Rattle.authenticode_core.proofs.OneCa.{ca_once}
use Rattle.authenticode_core.proofs.OneSignerRule.{key_name_once, unknown_name_once}
use Rattle.authenticode_core.proofs.SignerOrder.{first_met, key_name_met, named_met, named_rules}

-- ---- the certificate of a signer is on its own walk

pub walk_is_some : (f : SignedDataElements) (place : ℕ) (c : CertificateElements) (s : HasSigner f place c) (walk : List ℕ) → IsIssuerWalk s.0 c walk
    → walk ≡ [] → ⊥
walk_is_some f place c s [] none e = none place c s.2.later s.2.stands refl
walk_is_some f place c s (first ∷ others) walked e = absurd cc

pub signer_ca_of : (f : SignedDataElements) (place : ℕ) (c : CertificateElements) (s : HasSigner f place c) (walk : List ℕ) (ca : DerElement)
    → IsIssuerWalk s.0 c walk → IsNameAt s.0 walk ca → IsSignerCa f ca
signer_ca_of f place c s walk ca walked named =
    record { bag = s.0; is_bag = s.1; place = place; certificate = c; is_signer = s.2; walk = walk; is_walk = walked; named = named }

module _ (policy : Policy) (f : SignedDataElements) where
  -- ---- trusted or not

  abbrev given : Option CertificateTrustList
  given = option_copied policy.list

  trusted_or_off : (list : CertificateTrustList) (e : AuthenticodeError) → IsTrustedCa policy f list → IsOffList policy f list e → ⊥
  trusted_or_off list e (ca, is, inl on) off =
      let there = subst (λ (name : DerElement). IsFirstBroken (name_rules list policy.now name) e) (ca_once f off.0 ca off.1 is) off.3 in
      on_list_unbroken list policy.now ca e on there
  trusted_or_off list e (ca, is, inr excluded) off =
      off.2 (subst (λ (name : DerElement). IsExcluded policy name) (ca_once f ca off.0 is off.1) excluded)

  trusted_met : IsTrustedCaOf policy f → IsMet (HasUntrustedCa policy f)
  trusted_met trusted = λ e broken. trusted_or_off broken.0 e (trusted broken.0 broken.1) broken.2

  off_once : (list : CertificateTrustList) → IsReturnedOnce (IsOffList policy f list)
  off_once list = λ a b p q.
      let there = subst (λ (name : DerElement). IsFirstBroken (name_rules list policy.now name) a) (ca_once f p.0 q.0 p.1 q.1) p.3 in
      name_returned_once list policy.now q.0 a b there q.3

  untrusted_once : IsReturnedOnce (HasUntrustedCa policy f)
  untrusted_once = λ a b p q.
      off_once q.0 a b (subst (λ (list : CertificateTrustList). IsOffList policy f list a) (given_once given p.0 q.0 p.1 q.1) p.2) q.2

  -- ---- each reports one error

  pub ca_returned : AreReturnedOnce (ca_rules policy f)
  ca_returned = (λ a b p q. p.1 ∙ sym q.1, (key_name_once f, (unknown_name_once f, (untrusted_once, tt))))

  -- ---- what is listed breaks none

  pub ca_met : (a : Accepted) → IsSignerListed policy f a → AreMet (ca_rules policy f)
  ca_met a v =
      met_together (named_rules f) (HasUntrustedCa policy f ∷ []) (named_met f v.bag v.place v.certificate v.is_bag v.is_signer) (trusted_met v.listed, tt)

  -- ---- refusals

  pub ca_unnamed : (g : SignerElements) (e : AuthenticodeError) → IsFirstSigner f g → RefusesAuthenticodeBy (IsNamedByKey g ∷ HasNoCertificate f g ∷ []) e
      → RefusesAuthenticodeBy (ca_rules policy f) e
  ca_unnamed g e first (inl (inl broken)) = inl (inr (first_met f g first, inl (g, first, broken)))
  ca_unnamed g e first (inl (inr (met, inl broken))) = inl (inr (first_met f g first, inr (key_name_met f g first met, inl (g, first, broken))))
  ca_unnamed g e first (inl (inr (met, inr none))) = absurd none.1
  ca_unnamed g e first (inr memory) = inr memory

  pub ca_untrusted : (place : ℕ) (c : CertificateElements) (e : AuthenticodeError) → HasSigner f place c → HasUntrustedCa policy f e ⊎ (e ≡ errors.Memory)
      → RefusesAuthenticodeBy (ca_rules policy f) e
  ca_untrusted place c e s (inl broken) = inl (broken_behind (named_rules f) (HasUntrustedCa policy f ∷ []) e (named_met f s.0 place c s.1 s.2) (inl broken))
  ca_untrusted place c e s (inr memory) = inr memory

  pub listed_there : (place : ℕ) (c : CertificateElements) → HasSigner f place c → IsTrustedCaOf policy f → IsListedAt policy f place
  listed_there place c s trusted = ((c, s), trusted)

  -- ---- one CA

  module _ (list : CertificateTrustList) (is : option_copied policy.list ≡ Some list) (ca : DerElement) (signer : IsSignerCa f ca) where
    pub trusted_by : IsOnList list policy.now ca ⊎ IsExcluded policy ca → IsTrustedCaOf policy f
    trusted_by so = λ other given_too.
        (ca, signer, subst (λ (l : CertificateTrustList). IsOnList l policy.now ca ⊎ IsExcluded policy ca) (given_once given list other is given_too) so)

    pub untrusted_by : (e other : AuthenticodeError) → IsFirstBroken (name_rules list policy.now ca) e
        → ((other ≡ e) × (IsExcluded policy ca → ⊥)) ⊎ (other ≡ errors.Memory) → HasUntrustedCa policy f other ⊎ (other ≡ errors.Memory)
    untrusted_by e other broken (inl (same, none)) =
        inl (list, is, (ca, signer, none, subst (λ (x : AuthenticodeError). IsFirstBroken (name_rules list policy.now ca) x) (sym same) broken))
    untrusted_by e other broken (inr memory) = inr memory

    pub excluded_or_not : {X : Type 0} (error : AuthenticodeError) (r : Result X AuthenticodeError) → IsFirstBroken (name_rules list policy.now ca) error
        → MatchResult r (λ _. IsExcluded policy ca) (λ e. ((e ≡ error) × (IsExcluded policy ca → ⊥)) ⊎ (e ≡ errors.Memory))
        → MatchResult r (λ _. IsTrustedCaOf policy f) (λ e. HasUntrustedCa policy f e ⊎ (e ≡ errors.Memory))
    excluded_or_not error (Ok x) broken excluded = trusted_by (inr excluded)
    excluded_or_not error (Err e) broken answer = untrusted_by error e broken answer

  pub trusted_without : option_copied policy.list ≡ None → IsTrustedCaOf policy f
  trusted_without none = λ list some. absurd (none_given given list none some)
