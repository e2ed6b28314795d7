use Rattle.std.proofs.Common.{[], ◌∷◌, ap, ◌∙◌, subst}
use Rattle.std.proofs.lemmas.Result.{MatchResult-weaker}
use Rattle.der_core.specs.Refusals.{RefusesOctets}
use Rattle.key_core.specs.KeyRefusals.{unread}
use Rattle.key_core.specs.PrivatePkcs1.{IsPrivatePkcs1, IsRsaPrivateKey}
use Rattle.key_core.specs.declared.element.Element.TheVariants as elements
use Rattle.key_core.proofs.SmallSecrets.{read_or_memory}
use Rattle.ca_register.proofs.LineSubjects.{one_octet}
use Rattle.ca_register.proofs.keys.private_key_of.Goals as goal

pub returns : goal.returns
returns c =
    MatchResult-weaker c.from_pkcs1.result c.from_pkcs1.ensures.answer
    (λ key read. subst (λ octets. IsPrivatePkcs1 octets key) c.secret_of.ensures read)
    (λ e refused. refused.1 ∙ ap (unread elements.RsaPrivateKey) (read_or_memory (c.args.number ∷ []) (one_octet c.args.number) refused.0
    (subst (λ octets. RefusesOctets IsRsaPrivateKey octets refused.0) c.secret_of.ensures refused.2)))
