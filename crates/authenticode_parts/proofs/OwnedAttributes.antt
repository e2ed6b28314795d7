-- Signed attributes in the form of a signer.
use Rattle.std.proofs.Common.{◌≡◌, ℕ, List, [], ◌∷◌, ◌++◌, Result, Ok, Err, MatchResult, map, refl, sym, ap, subst, ◌∙◌}
use Rattle.der_core.specs.DerElement.{DerElement}
use Rattle.der_core.specs.Encoding.{IsDer}
use Rattle.der_core.specs.Facts.Grammars.{AreDer-append}
use Rattle.der_core.specs.Owned.{KeptElement}
use Rattle.der_core.specs.Borrowed.{AreDer}
use Rattle.der_core.specs.Refusals.{RefusesInner, RefusesShape}
use Rattle.der_core.specs.declared.error.DerError.{DerError}
use Rattle.der_core.specs.declared.error.DerError.TheVariants as errors
use Rattle.cms_types.specs.SignedAttributesElement.{signed_attributes}
use Rattle.cms_types.specs.declared.signer_info.signed_attributes.SignedAttributes.{SignedAttributes}
use Rattle.x509_types.specs.Facts.Attributes.{attribute_lists}
use Rattle.x509_types.specs.Attribute.{attribute, inner_attributes, AreAttributes}
use Rattle.x509_types.specs.declared.attribute.Attribute.{Attribute}
use Rattle.authenticode_parts.specs.MadeContent.{program_attributes}
use Rattle.authenticode_parts.specs.MadeSignature.{attributes_element}
use Rattle.der_core.proofs.Inner.{refuses_last}

-- the attributes with their element, which is within limits
abbrev some_value : (list : List Attribute) (kept : KeptElement) → AreDer (inner_attributes list) → kept.element ≡ attributes_element (map attribute list)
    → SignedAttributes
some_value list kept der is = record {
  element = kept;
  list = list;
  are = ∣ subst (λ (e : DerElement). AreAttributes e list) (sym is) (attribute_lists.spelled list der) ∣₁;
}

never_shape : (list : List Attribute) (kept : KeptElement) (e : DerError) → AreDer (inner_attributes list)
    → kept.element ≡ attributes_element (map attribute list)
    → RefusesShape (λ (value : SignedAttributes). kept.element ≡ signed_attributes value) e → (xs : List DerElement) → RefusesInner xs e
never_shape list kept errors.Shape der is none xs = absurd (none (some_value list kept der is) refl)
never_shape list kept errors.Memory der is none xs = tt
never_shape list kept (errors.Malformed m) der is none xs = absurd none
never_shape list kept errors.TooDeep der is none xs = absurd none
never_shape list kept errors.TooLong der is none xs = absurd none

-- reading the element that is written gives the attributes
pub kept_or_refused : (list : List Attribute) (kept : KeptElement) (at : DerElement) (r : Result SignedAttributes DerError) → AreDer (inner_attributes list)
    → kept.element ≡ attributes_element (map attribute list) → at ≡ kept.element
    → MatchResult r (λ value. at ≡ signed_attributes value) (RefusesShape (λ (value : SignedAttributes). at ≡ signed_attributes value))
    → MatchResult r (λ value. (signed_attributes value ≡ attributes_element (map attribute list))
    × AreDer (inner_attributes list ++ attributes_element (map attribute list) ∷ []))
    (RefusesInner (inner_attributes list ++ attributes_element (map attribute list) ∷ []))
kept_or_refused list kept at (Ok value) der is same read = (
  sym read ∙ same ∙ is,
  AreDer-append (inner_attributes list) (attributes_element (map attribute list) ∷ []) der (subst IsDer is kept.der, tt),
)
kept_or_refused list kept at (Err e) der is same refused =
    never_shape list kept e der is (subst (λ (x : DerElement). RefusesShape (λ (value : SignedAttributes). x ≡ signed_attributes value) e) same refused)
    (inner_attributes list ++ attributes_element (map attribute list) ∷ [])

-- The result of storing attributes, by their element and its inner elements.
abbrev Answers : List DerElement → DerElement → Result SignedAttributes DerError → Type 0
Answers inner element r =
    MatchResult r (λ value. (signed_attributes value ≡ element) × AreDer (inner ++ element ∷ [])) (RefusesInner (inner ++ element ∷ []))

behind_opus : (opus element : DerElement) (r : Result SignedAttributes DerError) → IsDer opus → Answers [] element r → Answers (opus ∷ []) element r
behind_opus opus element (Ok value) der kept = (kept.0, (der, kept.1))
behind_opus opus element (Err e) der refused = refuses_last (opus ∷ []) (element ∷ []) e (der, tt) refused

-- those of a program's signature, after what is said about the program
pub listed_or_refused : (list : List Attribute) (info opus : DerElement) (digest : List ℕ) (r : Result SignedAttributes DerError)
    → map attribute list ≡ program_attributes info digest → inner_attributes list ≡ [] → info ≡ opus → IsDer opus
    → Answers (inner_attributes list) (attributes_element (map attribute list)) r → Answers (opus ∷ []) (attributes_element (program_attributes opus digest)) r
listed_or_refused list info opus digest r are inner same der kept =
    let elements : attributes_element (map attribute list) ≡ attributes_element (program_attributes opus digest) =
    ap attributes_element are ∙ ap (λ (i : DerElement). attributes_element (program_attributes i digest)) same in
    behind_opus opus (attributes_element (program_attributes opus digest)) r der
    (subst (λ (x : DerElement). Answers [] x r) elements (subst (λ (xs : List DerElement). Answers xs (attributes_element (map attribute list)) r) inner kept))
