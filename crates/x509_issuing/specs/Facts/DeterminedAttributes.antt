-- Attributes are determined by the kinds of the extension values in them and by what is written for
-- them.
use Rattle.std.proofs.Common.{◌≡◌, ℕ, List, [], ◌∷◌, ◌++◌, map, flat_map, Option, Some, None, refl, ap, sym, ◌∙◌, append_assoc}
use Rattle.std.specs.Option.{option_map}
use Rattle.der_core.specs.DerElement.{DerElement, Constructed, row, listed}
use Rattle.der_core.specs.Facts.Grammars.{same_fields}
use Rattle.der_core.specs.Facts.Rows.{listed-row}
use Rattle.x509_types.specs.Extension.{extension}
use Rattle.x509_types.specs.TbsCertificate.{extensions}
use Rattle.x509_types.specs.AttributeValues.{kind_of_values, attribute_values, asked_kinds}
use Rattle.x509_types.specs.Attribute.{attribute, attribute_list}
use Rattle.x509_issuing.specs.RequestInfo.{asked_of}
use Rattle.x509_types.specs.Facts.DeterminedExtensions.{number_of, AreSmall}
use Rattle.x509_types.specs.Facts.DeterminedRequests.{kinds_of, split_kinds, same_members, small_append}
use Rattle.x509_types.specs.Facts.AttributeLists.{small_asked}
use Rattle.asn1_types.specs.Facts.Elements.{same_identifier}
use Rattle.x509_types.specs.Facts.Attributes.{same_two, same_kind, attributes_determined}
use Rattle.x509_types.specs.declared.attribute.Attribute.{Attribute}
use Rattle.x509_types.specs.declared.attribute.values.AttributeValues.{AttributeValues}
use Rattle.x509_types.specs.declared.attribute.values.AttributeValues.TheVariants as values
use Rattle.x509_types.specs.declared.extension.Extension.{Extension}

split_requests : (x y : List (List Extension)) (r s : List ℕ) → map extensions x ≡ map extensions y → kinds_of x ++ r ≡ kinds_of y ++ s
    → (kinds_of x ≡ kinds_of y) × (r ≡ s)
split_requests [] [] r s w e = (refl, e)
split_requests [] (b ∷ y) r s w e = absurd cc
split_requests (a ∷ x) [] r s w e = absurd cc
split_requests (a ∷ x) (b ∷ y) r s w e =
    let first : extensions a ≡ extensions b = cc in
    let others : map extensions x ≡ map extensions y = cc in
    let here = split_kinds a b (kinds_of x ++ r) (kinds_of y ++ s) (same_fields (map extension a) (map extension b) first)
    (sym (append_assoc (map number_of a) (kinds_of x) r) ∙ e ∙ append_assoc (map number_of b) (kinds_of y) s) in
    let behind = split_requests x y r s others here.1 in
    (ap (λ ns. ns ++ kinds_of x) here.0 ∙ ap (λ ns. map number_of b ++ ns) behind.0, behind.1)

split_asked : (u v : AttributeValues) (r s : List ℕ) → kind_of_values u ≡ kind_of_values v → attribute_values u ≡ attribute_values v
    → asked_kinds u ++ r ≡ asked_kinds v ++ s → (asked_kinds u ≡ asked_kinds v) × (r ≡ s)
split_asked (values.ContentType x) (values.ContentType y) r s kind w e = (refl, e)
split_asked (values.MessageDigest x) (values.MessageDigest y) r s kind w e = (refl, e)
split_asked (values.Extensions x) (values.Extensions y) r s kind w e = split_requests x y r s (same_members (map extensions x) (map extensions y) w) e
split_asked (values.Raw x) (values.Raw y) r s kind w e = (refl, e)
split_asked u v r s kind w e = absurd cc

abbrev asked_in : List Attribute → List ℕ
asked_in attributes = flat_map (λ (a : Attribute). asked_kinds a.value) attributes

lists_determined : (a b : List Attribute) → asked_in a ≡ asked_in b → map attribute a ≡ map attribute b → a ≡ b
lists_determined [] [] k e = refl
lists_determined [] (y ∷ b) k e = absurd cc
lists_determined (x ∷ a) [] k e = absurd cc
lists_determined (x ∷ a) (y ∷ b) k e =
    let first : attribute x ≡ attribute y = cc in
    let others : map attribute a ≡ map attribute b = cc in
    let parts = same_two _ _ _ _ first in
    let kinds = split_asked x.value y.value (asked_in a) (asked_in b) (same_kind x y (same_identifier x.ty y.ty parts.0)) parts.1 k in
    ap (λ v. v ∷ a) (attributes_determined x y kinds.0 first) ∙ ap (λ vs. y ∷ vs) (lists_determined a b kinds.1 others)

-- elements with this tag are the same only if their members are
same_tagged : (kids kids' : List DerElement) → Constructed 0xA0 (row kids) ≡ Constructed 0xA0 (row kids') → kids ≡ kids'
same_tagged kids kids' e =
    let same : row kids ≡ row kids' = cc in
    sym (listed-row kids) ∙ ap listed same ∙ listed-row kids'

pub attribute_options_determined : (a b : Option (List Attribute)) → asked_of a ≡ asked_of b → option_map attribute_list a ≡ option_map attribute_list b → a ≡ b
attribute_options_determined None None k e = refl
attribute_options_determined None (Some y) k e = absurd cc
attribute_options_determined (Some x) None k e = absurd cc
attribute_options_determined (Some x) (Some y) k e =
    let same : attribute_list x ≡ attribute_list y = cc in
    ap Some (lists_determined x y k (same_tagged (map attribute x) (map attribute y) same))

small_list : (a : List Attribute) → AreSmall (asked_in a)
small_list [] = tt
small_list (x ∷ a) = small_append (asked_kinds x.value) (asked_in a) (small_asked x.value) (small_list a)

pub small_asked_of : (a : Option (List Attribute)) → AreSmall (asked_of a)
small_asked_of None = tt
small_asked_of (Some a) = small_list a
