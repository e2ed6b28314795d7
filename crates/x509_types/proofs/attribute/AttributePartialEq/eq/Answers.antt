use Rattle.std.proofs.Common.{◌≡◌, ◌↔◌, IsTrue, Bool, ap, rules}
use Rattle.x509_types.specs.AttributeValues.{inner_values}
use Rattle.x509_types.specs.Attribute.{attribute, attribute_octets, IsAttribute}
use Rattle.x509_types.specs.Facts.Extensions.{writable_decide}
use Rattle.x509_types.specs.Facts.DeterminedExtensions.{decided_by_octets}
use Rattle.x509_types.specs.Facts.Attributes.{same_attribute, attributes, attributes_by_octets}
use Rattle.x509_types.specs.declared.attribute.Attribute.{Attribute}
use Rattle.x509_types.proofs.attribute.AttributePartialEq.eq.Goals as goal

-- attributes with one OID are determined by their values
by_value : (a b : Attribute) (t : Bool) → a.ty ≡ b.ty → (IsTrue t ↔ (a.value ≡ b.value)) → IsTrue t ↔ (a ≡ b)
by_value a b t ty value = (λ w. same_attribute a b ty (value.0 w), λ e. value.1 (ap (λ (x : Attribute). x.value) e))

pub returns-then-eq-clause-same : goal.returns-then-eq-clause-same
returns-then-eq-clause-same c = by_value c.args.self.now c.args.other.now _ (c.eq.ensures.same.0 c.if-eq.true) c.eq-then-eq.ensures.same

pub returns-then-eq-clause-compared : goal.returns-then-eq-clause-compared
returns-then-eq-clause-compared c = decided_by_octets attribute_octets attributes_by_octets c.args.self.now c.args.other.now _
    (by_value c.args.self.now c.args.other.now _ (c.eq.ensures.same.0 c.if-eq.true) c.eq-then-eq.ensures.same)

pub returns-then-eq-clause-octets : goal.returns-then-eq-clause-octets
returns-then-eq-clause-octets c = writable_decide IsAttribute attribute (λ a. inner_values a.value) attributes c.args.self.now c.args.other.now _
    (by_value c.args.self.now c.args.other.now _ (c.eq.ensures.same.0 c.if-eq.true) c.eq-then-eq.ensures.same)

pub returns-else-eq-clause-compared : goal.returns-else-eq-clause-compared
returns-else-eq-clause-compared c = decided_by_octets attribute_octets attributes_by_octets c.args.self.now c.args.other.now _ (search rules)

pub returns-else-eq-clause-octets : goal.returns-else-eq-clause-octets
returns-else-eq-clause-octets c = writable_decide IsAttribute attribute (λ a. inner_values a.value) attributes c.args.self.now c.args.other.now _ (search rules)
