-- Which certificates of a demonstration are accepted, and how many.
use Rattle.std.specs.Prelude.{◌≡◌, ◌↔◌, ℕ, Bool, IsTrue, List, length, Some, None}
use Rattle.std.specs.List.{slice_get}
use Rattle.der_core.specs.Counting.{IsCount}
use Rattle.asn1_types.specs.declared.generalized_time.GeneralizedTime.{GeneralizedTime}
use Rattle.x509_core.specs.History.{AreAncestors, History, IsValidAt}
use Rattle.x509_core.specs.Issued.{AreCertsAt}
use Rattle.x509_core.specs.OwnedCertificate.{KeptCertificate}
use Rattle.demo_core.specs.Issuing.{IsHistoryOf}
use Rattle.demo_core.specs.declared.history.Step.{Step}

-- the step at this index is a root
abbrev pub IsRootAt : List Step → ℕ → Type 0
IsRootAt steps index = (step : Step) × (slice_get steps index ≡ Some step) × (step.issuer ≡ None)

-- by each history of the certificates, these are those of the ancestors of the step at this index,
-- the nearest first
abbrev pub AreParents : List Step → List KeptCertificate → ℕ → List KeptCertificate → Type 0
AreParents steps certificates index parents =
    (history : History) → IsHistoryOf steps (length steps) certificates history
    → (ancestors : List ℕ) × AreAncestors history index ancestors
    × AreCertsAt certificates ancestors parents

-- by each history of the certificates, it is true exactly if the certificate of the step at this
-- index is valid at the date
abbrev pub IsValidity : List Step → List KeptCertificate → ℕ → GeneralizedTime → Bool → Type 0
IsValidity steps certificates index date valid =
    (history : History) → IsHistoryOf steps (length steps) certificates history
    → IsTrue valid ↔ IsValidAt history index date

-- by each history of the certificates, so many of those of the steps below this index are valid at
-- the date
abbrev pub IsValidCount : List Step → List KeptCertificate → GeneralizedTime → (below number : ℕ)
    → Type 0
IsValidCount steps certificates date below number =
    (history : History) → IsHistoryOf steps (length steps) certificates history
    → IsCount (λ index. IsValidAt history index date) below number
