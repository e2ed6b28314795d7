use Rattle.std.proofs.Common.{◌∷◌, [], ap, ◌∙◌}
use Rattle.der_core.specs.DerElement.{DerElement}
use Rattle.der_core.specs.Elements.{sequence}
use Rattle.cms_types.proofs.signer_info.view.SignerView.issuer_and_serial.Goals as goal

pub returns : goal.returns
returns c =
    let issuer = c.in_ok-issuer.issuer in
    record {
      name = issuer.is.0;
      is = c.in_ok-issuer.ensures ∙ ap (λ (e : DerElement). sequence (issuer.is.0 ∷ e ∷ [])) c.in_ok-serial_number.ensures;
      octets = issuer.is.1.1;
    }
