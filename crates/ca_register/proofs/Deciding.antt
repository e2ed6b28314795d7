-- What the validator says of a certificate of a register is decided by the entries.
use Rattle.std.proofs.Common.{◌≢◌, ℕ, List, Some, Result, Ok, Err, MatchResult, inl, inr}
use Rattle.std.proofs.Math.Logic.{∥∥₁_elim}
use Rattle.asn1_types.specs.declared.generalized_time.GeneralizedTime.{GeneralizedTime}
use Rattle.key_core.specs.Verifying.{Judge}
use Rattle.x509_core.specs.Chain.{IsAccepted, chain_rules}
use Rattle.x509_core.specs.Checks.{checks_at, first_checks}
use Rattle.x509_core.specs.Issued.{AreCertsAt, HasCert}
use Rattle.x509_core.specs.OwnedCertificate.{KeptCertificate}
use Rattle.x509_core.specs.Rules.{RefusesCertBy}
use Rattle.x509_core.specs.declared.error.CertError.{CertError}
use Rattle.x509_core.specs.declared.error.CertError.TheVariants as errors
use Rattle.x509_core.specs.declared.validator.ChainChecks.{ChainChecks}
use Rattle.x509_core.specs.declared.window.DateCheck.TheVariants as dates
use Rattle.x509_core.proofs.IssuedLinks.{accepted, valid}
use Rattle.x509_core.proofs.Verdicts.{accepted_is_met}
use Rattle.ca_register.specs.Authorities.{IsRegister}
use Rattle.ca_register.specs.Entries.{history_of}
use Rattle.ca_register.specs.Usable.{IsBetween, IsUsable}
use Rattle.ca_register.specs.declared.entry.Entry.{Entry}
use Rattle.ca_register.proofs.Usability.{between_valid, valid_between}

abbrev pub checks_of : GeneralizedTime → ChainChecks
checks_of date = checks_at (dates.Exact date) first_checks

abbrev pub Verdict : {T : Type 0} → Judge → GeneralizedTime → KeptCertificate → List KeptCertificate → Result T CertError → Type 0
Verdict judge date checked parents r =
    MatchResult r (λ _. IsAccepted judge (checks_of date) checked (Some parents)) (RefusesCertBy (chain_rules judge (checks_of date) checked (Some parents)))

module _ (judge : Judge) (entries : List Entry) (certificates : List KeptCertificate) (kept : ∥ IsRegister judge entries certificates ∥₁) (place : ℕ)
    (date from to : GeneralizedTime) (usable : IsUsable entries place from to)
    (checked : KeptCertificate) (has : HasCert certificates place checked) (parents : List KeptCertificate)
    (are : AreCertsAt certificates usable.ancestors parents) where
  decided : IsAccepted judge (checks_of date) checked (Some parents) → IsRegister judge entries certificates → IsBetween from to date
  decided is_accepted is = between_valid judge entries certificates is place from to date usable
      (valid judge (history_of entries) certificates date is.issued place usable.ancestors checked parents usable.are has are is_accepted)

  accepted_between : IsAccepted judge (checks_of date) checked (Some parents) → IsBetween from to date
  accepted_between is_accepted = record {
    begun = λ early. ∥∥₁_elim kept (λ a b. absurd a) (λ is. (decided is_accepted is).begun early);
    lasts = λ late. ∥∥₁_elim kept (λ a b. absurd a) (λ is. (decided is_accepted is).lasts late);
  }

  not_between : (e : CertError) → RefusesCertBy (chain_rules judge (checks_of date) checked (Some parents)) e → e ≢ errors.Memory → IsBetween from to date → ⊥
  not_between e (inl broken) other between = ∥∥₁_elim kept (λ a b. absurd a) (λ is.
      accepted_is_met judge (checks_of date) checked (Some parents) e
      (accepted judge (history_of entries) certificates date is.issued place usable.ancestors checked parents usable.are has are
      (valid_between judge entries certificates is place from to date usable between)) broken)
  not_between e (inr memory) other between = other memory

  pub decided_by_entries : {T : Type 0} (r : Result T CertError) → Verdict judge date checked parents r
      → MatchResult r (λ _. IsBetween from to date) (λ e. e ≢ errors.Memory → IsBetween from to date → ⊥)
  decided_by_entries (Ok v) is_accepted = accepted_between is_accepted
  decided_by_entries (Err e) refused = not_between e refused
