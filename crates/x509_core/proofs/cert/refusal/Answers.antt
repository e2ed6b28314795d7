use Rattle.std.proofs.Common.{rules}
use Rattle.x509_core.proofs.cert.refusal.Goals as goal

pub returns-then-is_certificate-clause-shapeless : goal.returns-then-is_certificate-clause-shapeless
returns-then-is_certificate-clause-shapeless c = λ none.
    let fit = c.is_certificate.ensures.fits (search rules) in
    absurd (none fit.0 fit.1)

pub returns-clause-answer : goal.returns-clause-answer
returns-clause-answer c = c.is_certificate.ensures.unfit (search rules)
