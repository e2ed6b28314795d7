use Rattle.std.proofs.Common.{◌≡◌, ◌↔◌, IsTrue, Bool, Option, refl, sym, ap, ◌∙◌, rules}
use Rattle.std.specs.Prelude.{bytes_eq}
use Rattle.std.specs.Option.{option_eq}
use Rattle.der_core.specs.Encoding.{encoding}
use Rattle.der_core.specs.Equality.{same_octets}
use Rattle.der_core.specs.Owned.{KeptElement}
use Rattle.der_core.specs.Facts.Equality.{kept_same, options_same, octets_decide}
use Rattle.asn1_types.specs.declared.oid.ObjectIdentifier.{ObjectIdentifier}
use Rattle.cms_content.specs.SpcAttribute.{spc_attribute}
use Rattle.cms_content.specs.Facts.SpcAttributes.{spc_attributes}
use Rattle.cms_content.specs.declared.spc_attribute.SpcAttributeTypeAndOptionalValue.{SpcAttributeTypeAndOptionalValue}
use Rattle.cms_content.proofs.spc_attribute.SpcAttributeTypeAndOptionalValuePartialEq.eq.Goals as goal

by_octets : (a b : SpcAttributeTypeAndOptionalValue) (test : Bool) → (IsTrue test ↔ (a ≡ b)) → test ≡ same_octets spc_attribute a b
by_octets = octets_decide spc_attribute (λ a b e. spc_attributes.once (spc_attribute a) a b refl e) spc_attributes.formed

-- the types are the same, so the attributes are the same where their values are
by_value : (a b : SpcAttributeTypeAndOptionalValue) (t : Bool) → a.ty ≡ b.ty
    → t ≡ option_eq (λ (x y : KeptElement). bytes_eq (encoding x.element) (encoding y.element)) a.value b.value → IsTrue t ↔ (a ≡ b)
by_value a b t ty test =
    let same = options_same _ kept_same a.value b.value in (
      λ w.
          let value = same.0 (sym test ∙ w) in
          ap (λ (o : ObjectIdentifier). record { ty = o; value = a.value }) ty ∙ ap (λ (v : Option KeptElement). record { ty = b.ty; value = v }) value,
      λ e. test ∙ same.1 (ap (λ (v : SpcAttributeTypeAndOptionalValue). v.value) e),
    )

pub returns-then-eq-clause-same : goal.returns-then-eq-clause-same
returns-then-eq-clause-same c = by_value c.args.self.now c.args.other.now _ (c.eq.ensures.same.0 c.if-eq.true) c.eq-then-eq.ensures

pub returns-then-eq-clause-octets : goal.returns-then-eq-clause-octets
returns-then-eq-clause-octets c =
    by_octets c.args.self.now c.args.other.now _ (by_value c.args.self.now c.args.other.now _ (c.eq.ensures.same.0 c.if-eq.true) c.eq-then-eq.ensures)

pub returns-else-eq-clause-octets : goal.returns-else-eq-clause-octets
returns-else-eq-clause-octets c = by_octets c.args.self.now c.args.other.now _ (search rules)
