use Rattle.std.proofs.Common.{sym, ◌∙◌}
use Rattle.der_core.specs.Facts.Owned.{same_encoded}
use Rattle.x509_types.specs.CertificateElements.{certificate_of}
use Rattle.authenticode_parts.proofs.carrying.member_of.Goals as goal

pub unreachable-requires : goal.unreachable-requires
unreachable-requires c = c.in-None.ensures (certificate_of c.args.certificate.now.elements) (c.args.certificate.now.der, c.as_bytes.ensures)

pub returns : goal.returns
returns c =
    let elem = c.in-Some.elem in
    c.from.ensures ∙ c.in_ok-from_elem-in-Some.ensures
    ∙ same_encoded elem.is.0 (certificate_of c.args.certificate.now.elements) elem.is.1.0 c.args.certificate.now.der
    (sym c.in-Some.ensures.1 ∙ c.as_bytes.ensures)
