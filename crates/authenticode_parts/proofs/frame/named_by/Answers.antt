use Rattle.std.proofs.Common.{◌∙◌}
use Rattle.authenticode_parts.proofs.OwnedNames.{names_it}
use Rattle.authenticode_parts.proofs.frame.named_by.Goals as goal

pub returns : goal.returns
returns c =
    names_it c.args.certificate.now c.from-issuer.result c.in_ok-serial_number.serial_number (c.from-issuer.ensures ∙ c.in_ok-issuer_name.ensures)
    (c.in_ok-serial_number.ensures ∙ c.serial_number.ensures)
