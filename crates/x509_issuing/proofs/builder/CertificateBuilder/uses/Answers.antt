use Rattle.std.proofs.Common.{List, [], ◌∷◌, ◌++◌, ap, ◌∙◌}
use Rattle.x509_types.specs.declared.extension.Extension.{Extension}
use Rattle.x509_issuing.proofs.WantedExtensions.{has_uses}
use Rattle.x509_issuing.proofs.builder.CertificateBuilder.uses.Goals as goal

pub returns : goal.returns
returns c =
    has_uses c.args.self.now c.in_ok-constraints.field-0 c.in_ok-usage.field-0 c.in_ok-purposes.field-0 c.push.new.self c.push_option.new.extensions
    c.push_option-2.new.extensions
    c.in_ok-constraints.ensures (c.in_ok-push.ensures.ok ∙ ap (λ (es : List Extension). es ++ c.in_ok-constraints.field-0 ∷ []) c.new-extensions.ensures)
    c.in_ok-usage.ensures c.in_ok-push_option.ensures c.in_ok-purposes.ensures c.in_ok-push_option-2.ensures
