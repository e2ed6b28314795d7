use Rattle.std.proofs.Common.{◌≡◌, List, Option, Some, Result, MatchResult, ap, subst, ◌∙◌}
use Rattle.key_core.specs.Verifying.{Judge}
use Rattle.x509_core.specs.Chain.{IsAccepted, chain_rules}
use Rattle.x509_core.specs.Checks.{checks_at}
use Rattle.x509_core.specs.OwnedCertificate.{KeptCertificate}
use Rattle.x509_core.specs.Rules.{RefusesCertBy}
use Rattle.x509_core.specs.declared.error.CertError.{CertError}
use Rattle.x509_core.specs.declared.validator.ChainChecks.{ChainChecks}
use Rattle.x509_core.specs.declared.window.DateCheck.TheVariants as dates
use Rattle.ca_register.specs.Above.{above_left}
use Rattle.ca_register.proofs.Yielding.{yields_rest}
use Rattle.ca_register.proofs.verifying.verify_over.Goals as goal

-- the result is that of the configured checks for the configured certificate
answer_of : {T : Type 0} (judge : Judge) (given : Option (List KeptCertificate)) (a b : ChainChecks) (x y : KeptCertificate) (r : Result T CertError)
    → a ≡ b → x ≡ y
    → MatchResult r (λ _. IsAccepted judge a x given) (RefusesCertBy (chain_rules judge a x given))
    → MatchResult r (λ _. IsAccepted judge b y given) (RefusesCertBy (chain_rules judge b y given))
answer_of judge given a b x y r checks certificate h =
    subst (λ (c : ChainChecks). MatchResult r (λ _. IsAccepted judge c y given) (RefusesCertBy (chain_rules judge c y given))) checks
    (subst (λ (k : KeptCertificate). MatchResult r (λ _. IsAccepted judge a k given) (RefusesCertBy (chain_rules judge a k given))) certificate h)

pub returns : goal.returns
returns g c =
    answer_of (g.S.Scheme.judge c.args.scheme.now) (Some (above_left c.args.parents)) _ _ _ _ c.verify.result
    (c.chain.ensures.rest.0 ∙ c.exact_date.ensures.checks ∙ ap (checks_at (dates.Exact c.args.date.now)) c.verifier.ensures.checks)
    (c.chain.ensures.rest.1 ∙ c.exact_date.ensures.rest.1 ∙ c.verifier.ensures.cert)
    (c.verify.ensures.answer (Some (above_left c.args.parents)) (λ asked. rw c.chain.ensures.chain (yields_rest above_left c.args.parents)))
