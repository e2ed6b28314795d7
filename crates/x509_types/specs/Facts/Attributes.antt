-- Attributes: an element encodes at most one, and what is written for one encodes it.
use Rattle.std.proofs.Common.{◌≡◌, [], ◌∷◌, refl, ap, sym, subst, ◌∙◌, arith}
use Rattle.der_core.specs.DerElement.{DerElement}
use Rattle.der_core.specs.Elements.{sequence}
use Rattle.der_core.specs.Encoding.{encoding, IsWellFormed}
use Rattle.der_core.specs.Structure.{IsGrammar}
use Rattle.der_core.specs.Facts.Fronts.{formed_encoding_once}
use Rattle.der_core.specs.Facts.Grammars.{lists}
use Rattle.asn1_types.specs.Values.{identifier_contents}
use Rattle.asn1_types.specs.Elements.{object_identifier}
use Rattle.asn1_types.specs.Facts.Elements.{identifiers, same_identifier}
use Rattle.asn1_types.specs.declared.oid.ObjectIdentifier.{ObjectIdentifier}
use Rattle.x509_types.specs.AttributeKind.{named_attribute}
use Rattle.x509_types.specs.AttributeValues.{kind_of_values, attribute_values, AreAttributeValues, inner_values, asked_kinds}
use Rattle.x509_types.specs.Attribute.{attribute, attribute_list, attribute_octets, inner_attributes, AreAttributes, IsAttribute}
use Rattle.x509_types.specs.Facts.AttributeKinds.{same_attribute_kinds}
use Rattle.x509_types.specs.Facts.AttributeLists.{values_once, values_bounded, values_spelled, values_formed, values_determined, small_asked}
use Rattle.x509_types.specs.Facts.DeterminedExtensions.{split_before}
use Rattle.x509_types.specs.declared.attribute.Attribute.{Attribute}
use Rattle.x509_types.specs.declared.attribute.values.AttributeValues.{AttributeValues}

abbrev attribute_with : (ty : ObjectIdentifier) (value : AttributeValues) → kind_of_values value ≡ named_attribute (identifier_contents ty) → Attribute
attribute_with ty value fits = record { ty = ty; value = value; fits = fits }

pub same_attribute : (a b : Attribute) → a.ty ≡ b.ty → a.value ≡ b.value → a ≡ b
same_attribute a b ty value =
    let with_value : (h : kind_of_values b.value ≡ named_attribute (identifier_contents a.ty)) → a ≡ attribute_with a.ty b.value h =
    subst (λ (v : AttributeValues). (h : kind_of_values v ≡ named_attribute (identifier_contents a.ty)) → a ≡ attribute_with a.ty v h) value
    (λ h. ap (attribute_with a.ty a.value) (same_attribute_kinds (kind_of_values a.value) (named_attribute (identifier_contents a.ty)) a.fits h)) in
    subst (λ (i : ObjectIdentifier). (h : kind_of_values b.value ≡ named_attribute (identifier_contents i)) → a ≡ attribute_with i b.value h)
    ty with_value b.fits

-- attributes with one OID have values of one kind
pub same_kind : (a b : Attribute) → a.ty ≡ b.ty → kind_of_values a.value ≡ kind_of_values b.value
same_kind a b ty = a.fits ∙ ap (λ (i : ObjectIdentifier). named_attribute (identifier_contents i)) ty ∙ sym b.fits

-- sequences of two are the same only if both elements are
pub same_two : (s t x y : DerElement) → sequence (s ∷ t ∷ []) ≡ sequence (x ∷ y ∷ []) → (s ≡ x) × (t ≡ y)
same_two s t x y e = (cc, cc)

attributes_once : (element : DerElement) (a b : Attribute) → IsAttribute element a → IsAttribute element b → a ≡ b
attributes_once element a b p q =
    let same = same_two (object_identifier a.ty) p.values (object_identifier b.ty) q.values (sym p.is ∙ q.is) in
    let ty = same_identifier a.ty b.ty same.0 in
    same_attribute a b ty
    (values_once q.values a.value b.value (same_kind a b ty) (subst (λ (v : DerElement). AreAttributeValues v a.value) same.1 p.spelled) q.spelled)

pub attributes_determined : (a b : Attribute) → asked_kinds a.value ≡ asked_kinds b.value → attribute a ≡ attribute b → a ≡ b
attributes_determined a b asked e =
    let same = same_two (object_identifier a.ty) (attribute_values a.value) (object_identifier b.ty) (attribute_values b.value) e in
    let ty = same_identifier a.ty b.ty same.0 in
    same_attribute a b ty (values_determined a.value b.value (same_kind a b ty) asked same.1)

pub attributes_formed : (a : Attribute) → IsWellFormed (attribute a)
attributes_formed a = ((omega arith, omega arith, omega arith), refl, (identifiers.formed a.ty, (values_formed a.value, tt)))

pub attributes : IsGrammar IsAttribute attribute (λ a. inner_values a.value)
attributes = record {
  once = attributes_once;
  bounded = λ element a p. values_bounded p.values a.value p.spelled;
  spelled = λ a der. record { values = attribute_values a.value; is = refl; spelled = values_spelled a.value der };
  formed = attributes_formed;
}

-- the same for attributes in a set
pub attribute_lists : IsGrammar AreAttributes attribute_list inner_attributes
attribute_lists = lists 0xA0 IsAttribute attribute (λ (a : Attribute). inner_values a.value) (omega arith, omega arith, omega arith) refl attributes

pub attributes_by_octets : (a b : Attribute) → attribute_octets a ≡ attribute_octets b → a ≡ b
attributes_by_octets a b e =
    let parts = split_before 0x30 (omega arith) (asked_kinds a.value) (asked_kinds b.value) (encoding (attribute a)) (encoding (attribute b)) _ _ refl refl
    (small_asked a.value) (small_asked b.value) e in
    attributes_determined a b parts.0 (formed_encoding_once (attribute a) (attribute b) (attributes_formed a) (attributes_formed b) parts.1)
