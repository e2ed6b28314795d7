use Rattle.std.proofs.Common.{sym, ◌∙◌, ap, subst}
use Rattle.der_core.specs.Encoding.{encoding, IsDer}
use Rattle.der_core.specs.Facts.Fronts.{formed_encoding_once}
use Rattle.sig_core.specs.RsaSecret.{rsa_private_element}
use Rattle.sig_core.proofs.rsa_secret.RsaSecret.of.Goals as goal

pub returns-in_err-elem : goal.returns-in_err-elem
returns-in_err-elem c = rw c.from_residual.ensures (λ s. c.in_err-elem.ensures (rsa_private_element s.numbers) (s.der, s.encoded))

pub returns-in-None : goal.returns-in-None
returns-in-None c s =
    let elem = c.in_ok-elem.elem in
    c.in-None.ensures s.numbers s.integers
    (formed_encoding_once elem.is.0 (rsa_private_element s.numbers) elem.is.1.0.formed s.der.formed (sym c.in_ok-elem.ensures.1 ∙ s.encoded))

pub returns-in-Some : goal.returns-in-Some
returns-in-Some c =
    let is = c.in-Some.ensures.2 in (
      record {
        numbers = c.in-Some.ensures.0;
        integers = c.in-Some.ensures.1;
        der = subst IsDer is c.in_ok-elem.elem.is.1.0;
        encoded = c.in_ok-elem.ensures.1 ∙ ap encoding is;
      },
      c.in-Some.ensures.3,
      c.in-Some.ensures.4,
    )
