-- What a demonstration reports.
use Rattle.std.specs.Prelude.{◌≡◌, ℕ, List, [], ◌∷◌, ◌++◌, Some, codes, decimal}
use Rattle.hex.specs.Hex.{encode_lower}
use Rattle.sig_core.specs.VerdictTable.{newline}
use Rattle.asn1_types.specs.declared.generalized_time.GeneralizedTime.{GeneralizedTime}
use Rattle.x509_core.specs.History.{IsValidAt}
use Rattle.x509_core.specs.OwnedCertificate.{KeptCertificate}
use Rattle.der_core.specs.Counting.{IsCount}
use Rattle.demo_core.specs.Acceptance.{IsRootAt}
use Rattle.demo_core.specs.Builders.{IsYearGiven}
use Rattle.demo_core.specs.Certificates.{demo_sum}
use Rattle.demo_core.specs.History.{demo_history}
use Rattle.demo_core.specs.Issuing.{AreStepCerts}
use Rattle.demo_core.specs.declared.demonstration.Demonstration.{Demonstration}

-- The certificates of the steps were issued, each the step's, element for element. The numbers are
-- those of the steps, of the roots among them, and of the certificates that are valid at the first
-- second of 2025, by the history that issued them; the sum is the SHA-256 of their octets.
pub record IsDemonstration (count : ℕ) (d : Demonstration) : Type 0 where
  pub steps : d.steps ≡ count
  pub roots : IsCount (IsRootAt (demo_history count)) count d.roots
  pub certificates : List KeptCertificate
  pub made : AreStepCerts (demo_history count) count certificates
  pub date : GeneralizedTime
  pub dated : IsYearGiven 2025 (Some date)
  pub accepted : IsCount (λ index. IsValidAt made.history index date) count d.accepted
  pub sum : d.sum ≡ demo_sum count

-- the counts of a report, in decimal
abbrev pub counts_text : Demonstration → List ℕ
counts_text d =
    codes "demo steps=" ++ decimal d.steps ++ codes " roots=" ++ decimal d.roots
    ++ codes " accepted=" ++ decimal d.accepted

-- a digest, in lower-case hexadecimal
abbrev pub sum_text : List ℕ → List ℕ
sum_text sum = codes " sum=" ++ encode_lower sum

-- the text of a report
abbrev pub report_text : Demonstration → List ℕ
report_text d = counts_text d ++ sum_text d.sum

-- the line of a report, as it is written
abbrev pub report_line : Demonstration → List ℕ
report_line d = report_text d ++ newline ∷ []
