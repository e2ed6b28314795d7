use Rattle.std.proofs.Common.{List, ℕ, inl, ap, subst, ◌∙◌}
use Rattle.key_core.specs.SignatureRules.{RefusesSignatureBy}
use Rattle.key_core.specs.Signing.{sign_rules}
use Rattle.key_core.specs.declared.signature_algorithm.SignatureAlgorithm.TheVariants.{RsaPkcs1v15}
use Rattle.authenticode_signature.specs.BuilderError.{builder_refusal}
use Rattle.authenticode_signature.proofs.builder.AuthenticodeSignatureBuilder.sealed.Goals as goal

pub returns : goal.returns
returns g c = λ members are.
    inl (inl (
      c.in-Err.source,
      c.from-in-Err.ensures ∙ ap builder_refusal c.from.ensures,
      subst (λ (message : List ℕ). RefusesSignatureBy (sign_rules (g.S.Scheme.signs c.args.scheme.now) (RsaPkcs1v15 c.args.given.now.algorithm)
          c.args.given.now.key.now message) c.in-Err.source)
          (c.deref.ensures.value ∙ c.in_ok-message.ensures members are) c.in-Err.ensures,
    ))
