use Rattle.std.proofs.Common.{◌∙◌, ℕ, List, inr, subst}
use Rattle.key_core.specs.SignatureRules.{RefusesSignatureBy}
use Rattle.key_core.specs.Signing.{sign_rules}
use Rattle.x509_issuing.specs.CsrRefusals.{IsUnsigned}
use Rattle.x509_issuing.proofs.Generating.{accepted_of}
use Rattle.x509_issuing.proofs.csr.generating.signature_of.Goals as goal

pub returns-in-Ok-sign-clause-verifies : goal.returns-in-Ok-sign-clause-verifies
returns-in-Ok-sign-clause-verifies g c = λ key paired.
    accepted_of (g.S.Scheme.judge c.args.scheme.now) c.args.algorithm key _ _ _ _ (c.deref.ensures.value ∙ c.in-Ok.ensures.0)
    (c.in_ok-with_bytes-in-Ok-sign.ensures.1 ∙ c.deref-in-Ok-sign.ensures.value) (c.in-Ok-sign.ensures.accepted key paired)

pub returns-clause-answer : goal.returns-clause-answer
returns-clause-answer g c = inr (
  (c.in-Ok.ensures.1, c.in-Ok.ensures.2),
  subst (λ (m : List ℕ). IsUnsigned (RefusesSignatureBy (sign_rules (g.S.Scheme.signs c.args.scheme.now) c.args.algorithm c.args.private_key.now m))
      c.unsigned.result)
      (c.deref.ensures.value ∙ c.in-Ok.ensures.0) (c.in-Err-sign.source, c.unsigned.ensures, c.in-Err-sign.ensures.signed),
)
