-- The name of a line, as it is made, and the modulus of its key.
use Rattle.std.proofs.Common.{◌≡◌, ℕ, List, [], ◌∷◌, refl, ap, ◌∙◌, arith}
use Rattle.der_core.specs.DerElement.{DerElement}
use Rattle.der_core.specs.Elements.{sequence, set}
use Rattle.asn1_types.specs.Elements.{object_identifier_of}
use Rattle.asn1_types.specs.Integer.{IsInteger}
use Rattle.asn1_types.specs.ObjectIdentifier.{contents_of}
use Rattle.asn1_types.specs.Subidentifier.{subidentifier}
use Rattle.asn1_types.specs.Values.{identifier_contents}
use Rattle.asn1_types.specs.declared.oids.TheConstants.{AT_COMMON_NAME}
use Rattle.name_types.specs.AttributeValue.{attribute_value}
use Rattle.name_types.specs.Name.{name}
use Rattle.name_types.specs.NameAttr.{attribute_arcs}
use Rattle.name_types.specs.declared.attribute_value.AttributeValue.{AttributeValue}
use Rattle.name_types.specs.declared.name_attr.NameAttr.TheVariants as attributes
use Rattle.names_core.specs.DirectoryName.{IsExtended, utf8_value}
use Rattle.names_core.specs.Names.{sets_of}
use Rattle.names_core.specs.declared.name.DirectoryName.{DirectoryName}
use Rattle.key_core.specs.SmallKeys.{IsSmallModulus}
use Rattle.ca_register.specs.LineCertificates.{common_name}

-- ---- the name

common_name_is : contents_of (attribute_arcs attributes.CommonName) ≡ AT_COMMON_NAME.now
unfolding subidentifier
common_name_is = refl

abbrev single : List ℕ → DerElement → DerElement
single oid value = sequence (set (sequence (object_identifier_of oid ∷ value ∷ []) ∷ []) ∷ [])

pub name_is : (text : List ℕ) (given : DirectoryName) → IsExtended (attribute_arcs attributes.CommonName) (utf8_value text) [] given.name
    → name (sets_of given) ≡ common_name text
name_is text given made =
    let attribute = made.attribute in
    let oid : identifier_contents attribute.ty ≡ AT_COMMON_NAME.now = attribute.ty.formed.spelled ∙ ap contents_of made.typed ∙ common_name_is in
    ap name made.appended ∙ ap (λ (o : List ℕ). single o (attribute_value attribute.value)) oid
    ∙ ap (λ (v : AttributeValue). single AT_COMMON_NAME.now (attribute_value v)) made.valued

-- ---- the modulus

not_empty : (number : ℕ) → IsInteger (number ∷ [])
not_empty number e = absurd cc

pub one_octet : (number : ℕ) → IsSmallModulus (number ∷ [])
one_octet number = record { integer = not_empty number; few = omega arith }
