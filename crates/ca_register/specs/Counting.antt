-- Which certificates are usable, and which are accepted, at a date.
use Rattle.std.specs.Prelude.{ℕ, List, Some}
use Rattle.asn1_types.specs.declared.generalized_time.GeneralizedTime.{GeneralizedTime}
use Rattle.key_core.specs.Verifying.{Judge}
use Rattle.x509_core.specs.Chain.{IsAccepted}
use Rattle.x509_core.specs.Checks.{checks_at, first_checks}
use Rattle.x509_core.specs.History.{AreAncestors}
use Rattle.x509_core.specs.Issued.{AreCertsAt, HasCert}
use Rattle.x509_core.specs.OwnedCertificate.{KeptCertificate}
use Rattle.x509_core.specs.declared.window.DateCheck.TheVariants as dates
use Rattle.ca_register.specs.Entries.{history_of}
use Rattle.ca_register.specs.Usable.{IsBetween, IsUsable}
use Rattle.ca_register.specs.declared.entry.Entry.{Entry}

-- The entry at an index is usable at the date.
pub record IsUsableAt (entries : List Entry) (date : GeneralizedTime) (place : ℕ) : Type 0 where
  pub from : GeneralizedTime
  pub to : GeneralizedTime
  pub usable : IsUsable entries place from to
  pub between : IsBetween from to date

-- The certificate at an index is accepted over those of all its ancestors, at the date, with all
-- checks.
pub record IsAcceptedAt (judge : Judge) (entries : List Entry) (certificates : List KeptCertificate)
    (date : GeneralizedTime) (place : ℕ) : Type 0 where
  pub checked : KeptCertificate
  pub has : HasCert certificates place checked
  pub ancestors : List ℕ
  pub are : AreAncestors (history_of entries) place ancestors
  pub parents : List KeptCertificate
  pub their : AreCertsAt certificates ancestors parents
  pub accepted : IsAccepted judge (checks_at (dates.Exact date) first_checks) checked (Some parents)
