-- Attributes with an optional value: different ones have different elements, each well formed.
use Rattle.std.proofs.Common.{◌≡◌, [], ◌∷◌, Option, refl, ap, ◌∙◌, arith}
use Rattle.std.specs.Prelude.{option_to_list}
use Rattle.der_core.specs.Owned.{KeptElement}
use Rattle.der_core.specs.BorrowedOption.{kept_option}
use Rattle.der_core.specs.Structure.{IsGrammar}
use Rattle.der_core.specs.Facts.Grammars.{printed, same_fields}
use Rattle.asn1_types.specs.Elements.{object_identifier}
use Rattle.asn1_types.specs.Facts.Elements.{identifiers}
use Rattle.asn1_types.specs.declared.oid.ObjectIdentifier.{ObjectIdentifier}
use Rattle.cms_content.specs.SpcAttribute.{spc_attribute}
use Rattle.cms_content.specs.declared.spc_attribute.SpcAttributeTypeAndOptionalValue.{SpcAttributeTypeAndOptionalValue}
use Rattle.der_core.specs.Facts.BorrowedOption.{kept_option_once}
use Rattle.key_types.specs.Facts.Algorithms.{option_formed}

attributes_once : (a b : SpcAttributeTypeAndOptionalValue) → spc_attribute a ≡ spc_attribute b → a ≡ b
attributes_once a b e =
    let kids = same_fields (object_identifier a.ty ∷ option_to_list (kept_option a.value)) (object_identifier b.ty ∷ option_to_list (kept_option b.value)) e in
    let first : object_identifier a.ty ≡ object_identifier b.ty = cc in
    let others : option_to_list (kept_option a.value) ≡ option_to_list (kept_option b.value) = cc in
    ap (λ (t : ObjectIdentifier). record { ty = t; value = a.value }) (identifiers.once (object_identifier a.ty) a.ty b.ty refl first)
    ∙ ap (λ (v : Option KeptElement). record { ty = b.ty; value = v }) (kept_option_once a.value b.value others)

pub spc_attributes : IsGrammar (λ element a. element ≡ spc_attribute a) spc_attribute (λ a. [])
spc_attributes = printed spc_attribute attributes_once (λ a. ((omega arith, omega arith, omega arith), refl, (identifiers.formed a.ty, option_formed a.value)))
