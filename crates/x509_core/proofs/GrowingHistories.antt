-- A history and its certificates with one more step.
use Rattle.std.proofs.Common.{◌≡◌, ◌<◌, ◌⊎◌, ℕ, zero, suc, List, [], ◌∷◌, ◌++◌, length, Some, inl, inr, refl, sym, ap, subst, ◌∙◌, arith}
use Rattle.std.specs.List.{slice_get}
use Rattle.std.proofs.lemmas.Option.{slice_get_within}
use Rattle.key_core.specs.Verifying.{Judge}
use Rattle.x509_core.specs.CertType.{IsSelfIssued}
use Rattle.x509_core.specs.History.{IssuingStep, History, HasStep, HasIssuer, IsRootStep}
use Rattle.x509_core.specs.Issued.{HasCert, IsRecordedAs, IsCertifiedBy, IsIssued, IsNext}
use Rattle.x509_core.specs.OwnedCertificate.{KeptCertificate}
use Rattle.x509_core.proofs.Chains.{one_more}
use Rattle.x509_core.proofs.Validity.{same_some}

module _ {A : Type 0} where
  -- an item of a list with one more is one of the list, or the last
  abbrev pub IsOldOrNew : List A → A → ℕ → A → Type 0
  IsOldOrNew items last index item = (slice_get items index ≡ Some item) ⊎ ((index ≡ length items) × (item ≡ last))

  nothing_at : (index : ℕ) (item : A) → slice_get {X = A} [] index ≡ Some item → ⊥
  nothing_at index item e = absurd cc

  pub old_or_new : (items : List A) (last : A) (index : ℕ) (item : A) → slice_get (items ++ last ∷ []) index ≡ Some item → IsOldOrNew items last index item
  old_or_new [] last zero item e = inr (refl, sym (same_some last item e))
  old_or_new [] last (suc index) item e = absurd (nothing_at index item e)
  old_or_new (first ∷ items) last zero item e = inl e
  old_or_new (first ∷ items) last (suc index) item e = later (old_or_new items last index item e)
    where
      later : IsOldOrNew items last index item → IsOldOrNew (first ∷ items) last (suc index) item
      later (inl found) = inl found
      later (inr (p, q)) = inr (omega (arith, p), q)

module _ (judge : Judge) (history : History) (certificates : List KeptCertificate) (step : IssuingStep) (cert : KeptCertificate)
    (issued : IsIssued judge history certificates) (next : IsNext judge certificates step cert) where
  abbrev Steps : History
  Steps = history ++ step ∷ []

  abbrev Certs : List KeptCertificate
  Certs = certificates ++ cert ∷ []

  -- which of two a step and a certificate at one index are
  abbrev Both : ℕ → IssuingStep → KeptCertificate → Type 0
  Both index s c = (HasStep history index s × HasCert certificates index c) ⊎ ((s ≡ step) × (c ≡ cert))

  both : (index : ℕ) (s : IssuingStep) (c : KeptCertificate) → HasStep Steps index s → HasCert Certs index c → Both index s c
  both index s c has is = by (old_or_new history step index s has) (old_or_new certificates cert index c is)
    where
      by : IsOldOrNew history step index s → IsOldOrNew certificates cert index c → Both index s c
      by (inl p) (inl q) = inl (p, q)
      by (inl p) (inr (q, same)) =
          let within = slice_get_within history index s p in
          let none : ⊥ = omega (arith, within, q, issued.all) in
          absurd none
      by (inr (p, same)) (inl q) =
          let within = slice_get_within certificates index c q in
          let none : ⊥ = omega (arith, within, p, issued.all) in
          absurd none
      by (inr (p, same)) (inr (q, also)) = inr (same, also)

  earlier_issuer : (issuer : ℕ) → step.issuer ≡ Some issuer → issuer < length history
  earlier_issuer issuer under =
      let parent = next.issued issuer under in
      let within = slice_get_within certificates issuer parent.0 parent.1 in
      omega (arith, within, issued.all)

  ordered_more : (index issuer : ℕ) → HasIssuer Steps index issuer → issuer < index
  ordered_more index issuer has = by (old_or_new history step index has.step has.is)
    where
      by : IsOldOrNew history step index has.step → issuer < index
      by (inl old) = issued.ordered index issuer (record { step = has.step; is = old; issued = has.issued })
      by (inr (at, same)) =
          let earlier = earlier_issuer issuer (ap (λ (s : IssuingStep). s.issuer) (sym same) ∙ has.issued) in
          omega (arith, earlier, at)

  recorded_more : (index : ℕ) (s : IssuingStep) (c : KeptCertificate) → HasStep Steps index s → HasCert Certs index c → IsRecordedAs s c
  recorded_more index s c has is = by (both index s c has is)
    where
      by : Both index s c → IsRecordedAs s c
      by (inl (p, q)) = issued.recorded index s c p q
      by (inr (p, q)) = subst (λ (x : IssuingStep). IsRecordedAs x c) (sym p) (subst (IsRecordedAs step) (sym q) next.recorded)

  roots_more : (index : ℕ) (c : KeptCertificate) → IsRootStep Steps index → HasCert Certs index c → IsSelfIssued c.elements
  roots_more index c root is = by (both index root.step c root.is is)
    where
      by : Both index root.step c → IsSelfIssued c.elements
      by (inl (p, q)) = issued.roots index c (record { step = root.step; is = p; unissued = root.unissued }) q
      by (inr (p, q)) =
          subst (λ (x : KeptCertificate). IsSelfIssued x.elements) (sym q) (next.root (ap (λ (s : IssuingStep). s.issuer) (sym p) ∙ root.unissued))

  old_parent : (issuer : ℕ) (parent : KeptCertificate) → issuer < length history → HasCert Certs issuer parent → HasCert certificates issuer parent
  old_parent issuer parent earlier is = by (old_or_new certificates cert issuer parent is)
    where
      by : IsOldOrNew certificates cert issuer parent → HasCert certificates issuer parent
      by (inl old) = old
      by (inr (at, same)) =
          let none : ⊥ = omega (arith, at, earlier, issued.all) in
          absurd none

  issued_more : (index issuer : ℕ) (parent child : KeptCertificate) → HasIssuer Steps index issuer → HasCert Certs issuer parent → HasCert Certs index child
      → IsCertifiedBy judge parent.elements child.elements
  issued_more index issuer parent child has is_parent is_child = by (both index has.step child has.is is_child)
    where
      by : Both index has.step child → IsCertifiedBy judge parent.elements child.elements
      by (inl (p, q)) =
          let under : HasIssuer history index issuer = record { step = has.step; is = p; issued = has.issued } in
          let within = slice_get_within history index has.step p in
          let earlier = issued.ordered index issuer under in
          issued.issued index issuer parent child under (old_parent issuer parent (omega (arith, within, earlier)) is_parent) q
      by (inr (p, q)) =
          let under : step.issuer ≡ Some issuer = ap (λ (s : IssuingStep). s.issuer) (sym p) ∙ has.issued in
          let found = next.issued issuer under in
          let same : found.0 ≡ parent = same_some found.0 parent (sym found.1 ∙ old_parent issuer parent (earlier_issuer issuer under) is_parent) in
          subst (λ (x : KeptCertificate). IsCertifiedBy judge parent.elements x.elements) (sym q)
          (subst (λ (x : KeptCertificate). IsCertifiedBy judge x.elements cert.elements) same found.2)

  pub issued_with_step : IsIssued judge Steps Certs
  issued_with_step = record {
    ordered = ordered_more;
    all =
        let more = one_more certificates cert in
        let steps = one_more history step in
        omega (arith, more, steps, issued.all);
    recorded = recorded_more;
    roots = roots_more;
    issued = issued_more;
  }
