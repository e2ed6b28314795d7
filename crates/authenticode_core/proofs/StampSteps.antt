-- The certificates of a token, and what is reported of them.
use Rattle.std.proofs.Common.{◌≡◌, ◌⊎◌, ◌↔◌, ℕ, List, Bool, Option, Some, None, MatchOption, length, inl, inr, subst, ◌∙◌, arith}
use Rattle.std.specs.Prelude.{IfSome, IsTrue}
use Rattle.std.specs.Option.{is_some}
use Rattle.std.proofs.lemmas.Option.{slice_get_within}
use Rattle.asn1_types.specs.declared.oids.TheConstants.{KP_TIME_STAMPING}
use Rattle.cms_types.specs.SignedDataElements.{SignedDataElements}
use Rattle.der_core.specs.Rules.{IsFirstBroken}
use Rattle.key_core.specs.Verifying.{Judge}
use Rattle.x509_types.specs.CertificateElements.{CertificateElements}
use Rattle.x509_types.specs.CertificateView.{view_elements}
use Rattle.x509_types.specs.Purposes.{NamesPurpose}
use Rattle.authenticode_core.specs.Excuses.{HasBadStamp, HasToken, IsForStamping, IsLinkedToken, IsUnlinkedStamp}
use Rattle.authenticode_core.specs.Excuses.{IsUnlistedStamp, LeadsStamping, NamesLifetime, NamesTimeStamping, stamp_rules}
use Rattle.authenticode_core.specs.Indices.{HasNoPlace, IsLeastPlace, StandsAt}
use Rattle.authenticode_core.specs.SigningRules.{IsBagOf}
use Rattle.authenticode_core.specs.declared.error.AuthenticodeError.{AuthenticodeError}
use Rattle.authenticode_core.specs.declared.error.AuthenticodeError.TheVariants as errors
use Rattle.authenticode_core.specs.declared.policy.Policy.{Policy}
use Rattle.authenticode_core.specs.declared.bag.BagCertificate.{BagCertificate}
use Rattle.authenticode_core.proofs.OneExcuse.{linked_stamp_met}

-- ---- a bag with a certificate for time stamping

abbrev IsForTime : CertificateElements → Type 0
IsForTime c = NamesPurpose c KP_TIME_STAMPING.now

pub named_or_not : (r : Option BagCertificate) (moved : BagCertificate → Type 0) (bag : List CertificateElements) (start : ℕ) (t : Bool) → start ≡ 0
    → MatchOption r (HasNoPlace bag IsForTime start) (λ k. IsLeastPlace bag IsForTime start k.place (view_elements k.certificate) × moved k) → t ≡ is_some r
    → IsTrue t ↔ NamesTimeStamping bag
named_or_not None moved bag start t e none is = (λ w. absurd cc, λ named. absurd (none named.0 named.1 (omega (arith, e)) named.2 named.3))
named_or_not (Some k) moved bag start t e found is = (λ w. (k.place, view_elements k.certificate, found.0.stands, found.0.fits), λ named. is)

-- ---- its first certificate

pub some_place : (bag : List CertificateElements) → NamesTimeStamping bag → length bag ≡ 0 → ⊥
some_place bag (place, c, stands, named) none =
    let within = slice_get_within bag place c stands in
    omega (arith, within, none)

pub leads_or_none : (r : Option BagCertificate) (moved : BagCertificate → Type 0) (t : SignedDataElements) (bag : List CertificateElements) (start : ℕ)
    → start ≡ 0 → IsBagOf t bag → NamesTimeStamping bag
    → IfSome r (λ k. (k.place ≡ start) × moved k) → MatchOption r (length bag ≡ start) (λ k. StandsAt bag k.place (view_elements k.certificate))
    → MatchOption r ((other : List CertificateElements) → IsForStamping t other → ⊥) (λ k. LeadsStamping t (view_elements k.certificate))
leads_or_none None moved t bag start e is named placed none = absurd (some_place bag named (none ∙ e))
leads_or_none (Some k) moved t bag start e is named placed stands = record {
  bag = bag;
  stamping = record { is_bag = is; named = named };
  stands = subst (λ (place : ℕ). StandsAt bag place (view_elements k.certificate)) (placed.0 ∙ e) stands;
}

-- ---- what is reported if it isn't linked, or its CA isn't listed

module _ (judge : Judge) (policy : Policy) (f t : SignedDataElements) (bag : List CertificateElements) (c first : CertificateElements) (mortal : NamesLifetime c
    → ⊥) (unnamed : NamesTimeStamping bag → ⊥) (has : HasToken f t) (leads : LeadsStamping t first) where
  bad : (e : AuthenticodeError) → IsFirstBroken (stamp_rules judge policy leads.bag) e → HasBadStamp judge policy f bag c e
  bad e broken = record { mortal = mortal; unnamed = unnamed; t = t; has = has; stamping_bag = leads.bag; stamping = leads.stamping; broken = broken }

  pub returned_or_memory : (e : AuthenticodeError) → IsUnlinkedStamp judge leads.bag e ⊎ (e ≡ errors.Memory)
      → HasBadStamp judge policy f bag c e ⊎ (e ≡ errors.Memory)
  returned_or_memory e (inl returns) = inl (bad e (inl returns))
  returned_or_memory e (inr memory) = inr memory

  pub unlisted_returned : (e : AuthenticodeError) → IsLinkedToken judge leads.bag → IsUnlistedStamp policy leads.bag e
      → HasBadStamp judge policy f bag c e ⊎ (e ≡ errors.Memory)
  unlisted_returned e linked returns = inl (bad e (inr (linked_stamp_met judge leads.bag linked, inl returns)))
