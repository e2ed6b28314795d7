use Rattle.std.proofs.Common.{subst}
use Rattle.asn1_types.specs.Elements.{object_identifier_of}
use Rattle.der_core.specs.DerElement.{DerElement}
use Rattle.x509_types.specs.ExtensionFields.{IsExtensionOf}
use Rattle.x509_types.specs.Facts.Extensions.{fields_once}
use Rattle.x509_types.proofs.extension.first.named.Goals as goal

pub returns-in_err-fields : goal.returns-in_err-fields
returns-in_err-fields c = rw c.from_residual.ensures (λ oid octets n. c.in_err-fields.ensures _ n.0 octets n.1)

pub returns-in_err-oid : goal.returns-in_err-oid
returns-in_err-oid c =
    rw c.from_residual-in_err-oid.ensures
    (λ oid octets n. c.in_err-oid.ensures oid (fields_once _ _ (object_identifier_of oid) _ n.0 _ octets c.in_ok-fields.ensures n.1).0)

pub returns : goal.returns
returns c =
    let fields = c.in_ok-fields.fields in (
      fields.critical,
      subst (λ (o : DerElement). IsExtensionOf c.args.extension.is.0 o fields.critical fields.value.now) c.in_ok-oid.ensures c.in_ok-fields.ensures,
    )
