use Rattle.std.proofs.Common.{subst}
use Rattle.der_core.specs.DerElement.{DerElement}
use Rattle.x509_types.specs.ExtensionFields.{IsExtensionOf}
use Rattle.x509_types.specs.ExtensionView.{IsOfKind}
use Rattle.x509_types.specs.declared.extension.view.ExtensionKind.{ExtensionKind}
use Rattle.x509_types.proofs.extension.ExtensionStructure.has_shape.Goals as goal

pub returns-in_default-clause-unfit : goal.returns-in_default-clause-unfit
returns-in_default-clause-unfit c = λ no e is. c.in_default.ensures _ _ _ is.fields

pub returns-in-Some-kind_at-clause-fits : goal.returns-in-Some-kind_at-clause-fits
returns-in-Some-kind_at-clause-fits c = λ w.
    let id = c.in-Some-kind_at.ensures in
    let fit = c.has_value.ensures.fits w in
    let fields = c.in-Some.fields in (
      record { extn_id = id.0; critical = fields.critical; extn_value = fit.0; agrees = subst (λ (k : ExtensionKind). IsOfKind k fit.0) id.2 fit.1.0 },
      record {
        octets = fields.value.now;
        fields = subst
            (λ (o : DerElement). IsExtensionOf c.args.elem.is.0 o fields.critical fields.value.now)
            id.1 c.in-Some.ensures;
        value = fit.1.1;
      },
    )
