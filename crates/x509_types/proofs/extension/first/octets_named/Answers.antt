use Rattle.std.proofs.Common.{sym, subst, ◌∙◌}
use Rattle.der_core.specs.DerElement.{DerElement}
use Rattle.x509_types.specs.ExtensionFields.{IsExtensionOf}
use Rattle.x509_types.proofs.Extensions.{first_field, some_fields}
use Rattle.x509_types.proofs.extension.first.octets_named.Goals as goal

pub returns-in_err-first : goal.returns-in_err-first
returns-in_err-first c =
    rw c.from_residual-in_err-first.ensures (λ octets named. some_fields _ _ _ _ octets c.in_ok-kids.ensures c.in_err-first.ensures.0 named.1)

pub returns-in_err-expect_leaf : goal.returns-in_err-expect_leaf
returns-in_err-expect_leaf c =
    rw c.from_residual-in_err-expect_leaf.ensures
    (λ octets named. c.in_err-expect_leaf.ensures (first_field _ _ _ _ _ _ octets c.in_ok-kids.ensures c.in_ok-first.ensures named.1))

pub returns-in_err-fields : goal.returns-in_err-fields
returns-in_err-fields c = rw c.from_residual-in_err-fields.ensures (λ octets named. c.in_err-fields.ensures _ named.0 octets named.1)

pub returns : goal.returns
returns c =
    let fields = c.in_ok-fields.fields in
    let first = first_field _ _ _ _ _ _ _ c.in_ok-kids.ensures c.in_ok-first.ensures c.in_ok-fields.ensures in (
      fields.critical,
      subst (λ (o : DerElement). IsExtensionOf c.args.extension.is.0 o fields.critical fields.value.now) (sym first ∙ c.in_ok-expect_leaf.ensures)
          c.in_ok-fields.ensures,
    )
