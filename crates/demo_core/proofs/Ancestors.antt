-- Walking from a step to its root, and what that says of the validation.
use Rattle.std.proofs.Common.{◌≡◌, ◌↔◌, ◌<◌, Bool, true, false, IsTrue, ℕ, List, [], ◌∷◌, ◌++◌}
use Rattle.std.proofs.Common.{length, Option, Some, None, inl, inr, refl, sym, subst, ◌∙◌, arith}
use Rattle.std.specs.List.{slice_get}
use Rattle.asn1_types.specs.declared.generalized_time.GeneralizedTime.{GeneralizedTime}
use Rattle.sig_core.specs.DemoScheme.{demo_verdict}
use Rattle.x509_core.specs.Chain.{IsAccepted, chain_rules, last_of}
use Rattle.x509_core.specs.Checks.{checks_at, first_checks}
use Rattle.x509_core.specs.History.{AreIssuers, HasIssuer, HasStep, History, IsRootStep, IssuingStep}
use Rattle.x509_core.specs.Issued.{AreCertsAt, HasCert}
use Rattle.x509_core.specs.OwnedCertificate.{KeptCertificate}
use Rattle.x509_core.specs.Rules.{RefusesCertBy}
use Rattle.x509_core.specs.declared.error.CertError.{CertError}
use Rattle.x509_core.specs.declared.error.CertError.TheVariants as errors
use Rattle.x509_core.specs.declared.window.DateCheck.TheVariants as dates
use Rattle.x509_core.proofs.Chains.{last_more}
use Rattle.x509_core.proofs.Histories.{item_at}
use Rattle.x509_core.proofs.IssuedLinks.{accepted, valid}
use Rattle.x509_core.proofs.Verdicts.{accepted_is_met}
use Rattle.demo_core.specs.Acceptance.{AreParents, IsRootAt, IsValidity}
use Rattle.demo_core.specs.Issuing.{AreStepCerts, IsHistoryOf}
use Rattle.demo_core.specs.declared.history.Step.{Step}

never : IsTrue false → ⊥
never e = absurd cc

-- ---- the steps of a history

issuers_more : (history : History) (index : ℕ) (issuers : List ℕ) (at issuer : ℕ) → AreIssuers history index issuers → last_of index issuers ≡ at
    → HasIssuer history at issuer
    → AreIssuers history index (issuers ++ issuer ∷ [])
issuers_more history index [] at issuer are last has = (subst (λ (i : ℕ). HasIssuer history i issuer) (sym last) has, tt)
issuers_more history index (first ∷ issuers) at issuer are last has = (are.0, issuers_more history first issuers at issuer are.1 last has)

certs_more : (certificates : List KeptCertificate) (indices : List ℕ) (certs : List KeptCertificate) (index : ℕ) (cert : KeptCertificate)
    → AreCertsAt certificates indices certs
    → HasCert certificates index cert → AreCertsAt certificates (indices ++ index ∷ []) (certs ++ cert ∷ [])
certs_more certificates [] [] index cert are has = (has, tt)
certs_more certificates [] (c ∷ certs) index cert are has = absurd are
certs_more certificates (i ∷ indices) [] index cert are has = absurd are
certs_more certificates (i ∷ indices) (c ∷ certs) index cert are has = (are.0, certs_more certificates indices certs index cert are.1 has)

module _ (steps : List Step) (certificates : List KeptCertificate) where
  -- the certificates so far are those of the nearest ancestors, as far as this one
  abbrev pub IsWalked : (index at : ℕ) (parents : List KeptCertificate) → Type 0
  IsWalked index at parents = (history : History) → IsHistoryOf steps (length steps) certificates history
      → (issuers : List ℕ) × AreIssuers history index issuers × (last_of index issuers ≡ at) × AreCertsAt certificates issuers parents

  abbrev pub IsIssuer : ℕ → Option ℕ → Type 0
  IsIssuer at issuer = (step : Step) → slice_get steps at ≡ Some step → issuer ≡ step.issuer

  recorded_issuer : (history : History) (of : IsHistoryOf steps (length steps) certificates history) (at : ℕ) (issuer : Option ℕ) → at < length steps
      → IsIssuer at issuer
      → (recorded : IssuingStep) × HasStep history at recorded × (recorded.issuer ≡ issuer)
  recorded_issuer history of at issuer within is =
      let step = item_at steps at within in
      let recorded = item_at history at (omega (arith, within, of.all)) in
      (recorded.0, recorded.1, (of.records at step.0 recorded.0 step.1 recorded.1).issuer ∙ sym (is step.0 step.1))

  has_issuer : (history : History) → IsHistoryOf steps (length steps) certificates history → (at issuer : ℕ) → at < length steps → IsIssuer at (Some issuer)
      → HasIssuer history at issuer
  has_issuer history of at issuer within is =
      let found = recorded_issuer history of at (Some issuer) within is in
      record { step = found.0; is = found.1; issued = found.2 }

  is_root : (history : History) → IsHistoryOf steps (length steps) certificates history → (at : ℕ) → at < length steps → IsIssuer at None
      → IsRootStep history at
  is_root history of at within is =
      let found = recorded_issuer history of at None within is in
      record { step = found.0; is = found.1; unissued = found.2 }

  -- the issuer is an earlier step, and has a certificate
  pub issuer_earlier : (made : AreStepCerts steps (length steps) certificates) (at issuer : ℕ) → at < length steps → IsIssuer at (Some issuer) → issuer < at
  issuer_earlier made at issuer within is = made.of.issued.ordered at issuer (has_issuer made.history made.of at issuer within is)

  pub issuer_has_cert : (made : AreStepCerts steps (length steps) certificates) (at issuer : ℕ) → at < length steps → IsIssuer at (Some issuer)
      → issuer < length certificates
  issuer_has_cert made at issuer within is = omega (arith, issuer_earlier made at issuer within is, within, made.of.all, made.of.issued.all)

  pub walked_more : (index at issuer : ℕ) (parents : List KeptCertificate) (cert : KeptCertificate) → IsWalked index at parents → at < length steps
      → IsIssuer at (Some issuer)
      → HasCert certificates issuer cert → IsWalked index issuer (parents ++ cert ∷ [])
  walked_more index at issuer parents cert walked within is has = λ history of.
      let so_far = walked history of in (
        so_far.0 ++ issuer ∷ [],
        issuers_more history index so_far.0 at issuer so_far.1 so_far.2 (has_issuer history of at issuer within is),
        last_more index so_far.0 issuer,
        certs_more certificates so_far.0 parents issuer cert so_far.3 has,
      )

  pub walked_whole : (index at : ℕ) (parents : List KeptCertificate) → IsWalked index at parents → at < length steps → IsIssuer at None
      → AreParents steps certificates index parents
  walked_whole index at parents walked within is = λ history of.
      let so_far = walked history of in
      (so_far.0, (so_far.1, subst (IsRootStep history) (sym so_far.2) (is_root history of at within is)), so_far.3)

  -- ---- roots

  pub root_at : (at : ℕ) → at < length steps → IsIssuer at None → IsTrue true ↔ IsRootAt steps at
  root_at at within is =
      let step = item_at steps at within in
      (λ yes. (step.0, step.1, sym (is step.0 step.1)), λ root. refl)

  -- ---- the validation

  pub validity_is : (index : ℕ) (date : GeneralizedTime) (cert : KeptCertificate) (parents : List KeptCertificate) (accepts : Bool)
      → HasCert certificates index cert
      → AreParents steps certificates index parents
      → (IsTrue accepts ↔ IsAccepted demo_verdict (checks_at (dates.Exact date) first_checks) cert (Some parents))
      → IsValidity steps certificates index date accepts
  validity_is index date cert parents accepts has are decides = λ history of.
      let found = are history of in (
        λ yes. valid demo_verdict history certificates date of.issued index found.0 cert parents found.1 has found.2 (decides.0 yes),
        λ is. decides.1 (accepted demo_verdict history certificates date of.issued index found.0 cert parents found.1 has found.2 is),
      )

pub refused_is : (date : GeneralizedTime) (cert : KeptCertificate) (parents : List KeptCertificate) (e : CertError) → (e ≡ errors.Memory → ⊥)
    → RefusesCertBy (chain_rules demo_verdict (checks_at (dates.Exact date) first_checks) cert (Some parents)) e
    → IsTrue false ↔ IsAccepted demo_verdict (checks_at (dates.Exact date) first_checks) cert (Some parents)
refused_is date cert parents e other (inl broken) =
    (λ no. absurd (never no), λ is. absurd (accepted_is_met demo_verdict (checks_at (dates.Exact date) first_checks) cert (Some parents) e is broken))
refused_is date cert parents e other (inr memory) = absurd (other memory)
