use Rattle.std.proofs.Common.{◌∙◌, ℕ, List, inl, inr, subst}
use Rattle.key_core.specs.SignatureRules.{RefusesSignatureBy}
use Rattle.key_core.specs.Signing.{sign_rules}
use Rattle.der_core.specs.Refusals.{Wraps}
use Rattle.x509_issuing.specs.BuildRefusals.{no_signature}
use Rattle.x509_issuing.proofs.Generating.{accepted_of}
use Rattle.x509_issuing.proofs.builder.signing.signature_of.Goals as goal

pub returns-in-Ok-sign-clause-accepted : goal.returns-in-Ok-sign-clause-accepted
returns-in-Ok-sign-clause-accepted g c = λ public paired.
    accepted_of (g.S.Scheme.judge c.args.scheme.now) c.args.algorithm public _ _ _ _ (c.deref.ensures.value ∙ c.in-Ok.ensures.0)
    (c.in_ok-with_bytes-in-Ok-sign.ensures.1 ∙ c.deref-in-Ok-sign.ensures.value) (c.in-Ok-sign.ensures.accepted public paired)

pub returns-clause-answer : goal.returns-clause-answer
returns-clause-answer g c = inl (inr (
  c.in-Ok.ensures.1,
  c.in-Ok.ensures.2,
  subst (λ (m : List ℕ). Wraps no_signature (RefusesSignatureBy (sign_rules (g.S.Scheme.signs c.args.scheme.now) c.args.algorithm c.args.private_key.now m))
      c.no_signature.result)
      (c.deref.ensures.value ∙ c.in-Ok.ensures.0) (c.in-Err-sign.source, c.no_signature.ensures, c.in-Err-sign.ensures.signed),
))
