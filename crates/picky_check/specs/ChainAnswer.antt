-- The result for a certificate with its parents, from their octets.
use Rattle.std.specs.Prelude.{◌≡◌, ◌⊎◌, ℕ, List, [], ◌∷◌, length, Some, Result, Ok, Err}
use Rattle.std.specs.Result.{IsErrAnd}
use Rattle.asn1_types.specs.declared.generalized_time.GeneralizedTime.{GeneralizedTime}
use Rattle.key_core.specs.Verifying.{Judge}
use Rattle.x509_core.specs.Chain.{IsAccepted, chain_rules}
use Rattle.x509_core.specs.Checks.{checks_at, first_checks}
use Rattle.x509_core.specs.OwnedCertificate.{KeptCertificate}
use Rattle.x509_core.specs.OwnedCertificates.{AreKeptCertificates, IsFirstUnread}
use Rattle.x509_core.specs.Rules.{RefusesCertBy}
use Rattle.x509_core.specs.declared.error.CertError.{CertError}
use Rattle.x509_core.specs.declared.validator.ChainChecks.{ChainChecks}
use Rattle.x509_core.specs.declared.window.DateCheck.TheVariants as dates

-- all is checked: the validity of each certificate at this moment, the parents, and the root
abbrev pub all_checks : GeneralizedTime → ChainChecks
all_checks date = checks_at (dates.Exact date) first_checks

-- The first certificate is accepted with the others, and these are counted; or the error reports
-- the first broken rule.
abbrev pub IsChainJudged : Judge → GeneralizedTime → List KeptCertificate → Result ℕ CertError
    → Type 0
IsChainJudged judge date [] answer = ⊥
IsChainJudged judge date (checked ∷ parents) (Ok count) =
    (count ≡ length parents) × IsAccepted judge (all_checks date) checked (Some parents)
IsChainJudged judge date (checked ∷ parents) (Err e) =
    RefusesCertBy (chain_rules judge (all_checks date) checked (Some parents)) e

-- Octets that aren't all certificates are refused for the first that is none; else the result is
-- that for the certificates.
abbrev pub IsChainAnswer : Judge → GeneralizedTime → List (List ℕ) → Result ℕ CertError → Type 0
IsChainAnswer judge date octets answer =
    IsErrAnd answer (IsFirstUnread octets)
    ⊎ ((certificates : List KeptCertificate) × AreKeptCertificates octets certificates
    × IsChainJudged judge date certificates answer)
