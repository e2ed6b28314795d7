-- Unsigned attributes: different ones have different elements, each well formed.
use Rattle.std.proofs.Common.{◌≡◌, ℕ, List, [], ◌∷◌, refl, sym, ap, subst, ◌∙◌, arith}
use mathlib.Core.Logic.{∥∥₁_prop}
use Rattle.der_core.specs.DerElement.{DerElement}
use Rattle.der_core.specs.Elements.{set}
use Rattle.der_core.specs.Encoding.{IsWellFormed}
use Rattle.der_core.specs.Owned.{KeptElement}
use Rattle.der_core.specs.Structure.{IsGrammar}
use Rattle.der_core.specs.Facts.Grammars.{printed, list_once, each_formed}
use Rattle.der_core.specs.Facts.Owned.{same_kept}
use Rattle.asn1_types.specs.Elements.{object_identifier}
use Rattle.asn1_types.specs.Values.{identifier_contents}
use Rattle.asn1_types.specs.Facts.Elements.{identifiers}
use Rattle.asn1_types.specs.declared.oid.ObjectIdentifier.{ObjectIdentifier}
use Rattle.asn1_types.specs.declared.oids.TheConstants.{COUNTERSIGNATURE, RFC3161_COUNTER_SIGN}
use Rattle.cms_types.specs.Members.{element_of_kept, elements_of_kept}
use Rattle.cms_types.specs.Signers.{AreSignerInfos, ArePkcs7s}
use Rattle.cms_types.specs.UnsignedKind.{named_unsigned}
use Rattle.cms_types.specs.AttributeElement.{attribute_of}
use Rattle.cms_types.specs.UnsignedAttribute.{unsigned_attribute}
use Rattle.cms_types.specs.Facts.UnsignedKinds.{same_unsigned_kinds}
use Rattle.cms_types.specs.declared.unsigned_attribute.UnsignedAttribute.{UnsignedAttribute}
use Rattle.cms_types.specs.declared.unsigned_attribute.UnsignedAttribute.TheVariants as attributes
use Rattle.cms_types.specs.declared.unsigned_attribute.kind.UnsignedKind.TheVariants as kinds
use Rattle.cms_types.specs.declared.unsigned_attribute.raw.RawUnsignedAttribute.{RawUnsignedAttribute}
use Rattle.cms_types.specs.declared.unsigned_attribute.signer_values.SignerValues.{SignerValues}
use Rattle.cms_types.specs.declared.unsigned_attribute.token_values.TokenValues.{TokenValues}

-- ---- raw elements

pub kept_once : (a b : List KeptElement) → elements_of_kept a ≡ elements_of_kept b → a ≡ b
kept_once [] [] e = refl
kept_once [] (y ∷ ys) e = absurd cc
kept_once (x ∷ xs) [] e = absurd cc
kept_once (x ∷ xs) (y ∷ ys) e =
    let first : x.element ≡ y.element = cc in
    let others : elements_of_kept xs ≡ elements_of_kept ys = cc in
    ap (λ k. k ∷ xs) (same_kept x y first) ∙ ap (λ ks. y ∷ ks) (kept_once xs ys others)

abbrev signers_with : (items : List KeptElement) → ∥ AreSignerInfos (elements_of_kept items) ∥₁ → SignerValues
signers_with items all = record { items = items; all = all }

abbrev tokens_with : (items : List KeptElement) → ∥ ArePkcs7s (elements_of_kept items) ∥₁ → TokenValues
tokens_with items all = record { items = items; all = all }

pub same_signers : (a b : SignerValues) → a.items ≡ b.items → a ≡ b
same_signers a b e =
    subst (λ (xs : List KeptElement). (h : ∥ AreSignerInfos (elements_of_kept xs) ∥₁) → a ≡ signers_with xs h) e
    (λ h. ap (signers_with a.items) (∥∥₁_prop a.all h)) b.all

pub same_tokens : (a b : TokenValues) → a.items ≡ b.items → a ≡ b
same_tokens a b e =
    subst (λ (xs : List KeptElement). (h : ∥ ArePkcs7s (elements_of_kept xs) ∥₁) → a ≡ tokens_with xs h) e
    (λ h. ap (tokens_with a.items) (∥∥₁_prop a.all h)) b.all

abbrev raw_with : (ty : ObjectIdentifier) (values : List KeptElement) → named_unsigned (identifier_contents ty) ≡ kinds.Other → RawUnsignedAttribute
raw_with ty values other = record { ty = ty; values = values; other = other }

pub same_raw : (a b : RawUnsignedAttribute) → a.ty ≡ b.ty → a.values ≡ b.values → a ≡ b
same_raw a b ty values =
    subst (λ (i : ObjectIdentifier). (h : named_unsigned (identifier_contents i) ≡ kinds.Other) → a ≡ raw_with i a.values h) ty
    (λ h. ap (raw_with a.ty a.values) (same_unsigned_kinds (named_unsigned (identifier_contents a.ty)) kinds.Other a.other h)) b.other
    ∙ ap (λ (v : List KeptElement). raw_with b.ty v b.other) values

-- ---- by their elements

same_kids : (i j : List ℕ) (xs ys : List DerElement) → attribute_of i xs ≡ attribute_of j ys → (i ≡ j) × (set xs ≡ set ys)
same_kids i j xs ys e = (cc, cc)

same_values : (xs ys : List KeptElement) → set (elements_of_kept xs) ≡ set (elements_of_kept ys) → xs ≡ ys
same_values xs ys e = list_once 0x31 element_of_kept same_kept xs ys e

-- OIDs of different kinds are different
unlike : {P : Type 0} (i j : List ℕ) → i ≡ j → (named_unsigned i ≡ named_unsigned j → ⊥) → P
unlike i j e none = absurd (none (ap named_unsigned e))

attributes_once : (a b : UnsignedAttribute) → unsigned_attribute a ≡ unsigned_attribute b → a ≡ b
attributes_once (attributes.CounterSign x) (attributes.CounterSign y) e =
    let parts = same_kids COUNTERSIGNATURE.now COUNTERSIGNATURE.now (elements_of_kept x.items) (elements_of_kept y.items) e in
    ap attributes.CounterSign (same_signers x y (same_values x.items y.items parts.1))
attributes_once (attributes.MsCounterSign x) (attributes.MsCounterSign y) e =
    let parts = same_kids RFC3161_COUNTER_SIGN.now RFC3161_COUNTER_SIGN.now (elements_of_kept x.items) (elements_of_kept y.items) e in
    ap attributes.MsCounterSign (same_tokens x y (same_values x.items y.items parts.1))
attributes_once (attributes.Raw x) (attributes.Raw y) e =
    let parts = same_kids (identifier_contents x.ty) (identifier_contents y.ty) (elements_of_kept x.values) (elements_of_kept y.values) e in
    let first : object_identifier x.ty ≡ object_identifier y.ty = cc in
    ap attributes.Raw (same_raw x y (identifiers.once (object_identifier x.ty) x.ty y.ty refl first) (same_values x.values y.values parts.1))
attributes_once (attributes.CounterSign x) (attributes.MsCounterSign y) e =
    let parts = same_kids COUNTERSIGNATURE.now RFC3161_COUNTER_SIGN.now (elements_of_kept x.items) (elements_of_kept y.items) e in
    unlike COUNTERSIGNATURE.now RFC3161_COUNTER_SIGN.now parts.0 (λ same. absurd cc)
attributes_once (attributes.MsCounterSign x) (attributes.CounterSign y) e =
    let parts = same_kids RFC3161_COUNTER_SIGN.now COUNTERSIGNATURE.now (elements_of_kept x.items) (elements_of_kept y.items) e in
    unlike RFC3161_COUNTER_SIGN.now COUNTERSIGNATURE.now parts.0 (λ same. absurd cc)
attributes_once (attributes.CounterSign x) (attributes.Raw y) e =
    let parts = same_kids COUNTERSIGNATURE.now (identifier_contents y.ty) (elements_of_kept x.items) (elements_of_kept y.values) e in
    unlike COUNTERSIGNATURE.now (identifier_contents y.ty) parts.0 (λ same. let is = same ∙ y.other in absurd cc)
attributes_once (attributes.MsCounterSign x) (attributes.Raw y) e =
    let parts = same_kids RFC3161_COUNTER_SIGN.now (identifier_contents y.ty) (elements_of_kept x.items) (elements_of_kept y.values) e in
    unlike RFC3161_COUNTER_SIGN.now (identifier_contents y.ty) parts.0 (λ same. let is = same ∙ y.other in absurd cc)
attributes_once (attributes.Raw x) (attributes.CounterSign y) e =
    let parts = same_kids (identifier_contents x.ty) COUNTERSIGNATURE.now (elements_of_kept x.values) (elements_of_kept y.items) e in
    unlike (identifier_contents x.ty) COUNTERSIGNATURE.now parts.0 (λ same. let is = sym x.other ∙ same in absurd cc)
attributes_once (attributes.Raw x) (attributes.MsCounterSign y) e =
    let parts = same_kids (identifier_contents x.ty) RFC3161_COUNTER_SIGN.now (elements_of_kept x.values) (elements_of_kept y.items) e in
    unlike (identifier_contents x.ty) RFC3161_COUNTER_SIGN.now parts.0 (λ same. let is = sym x.other ∙ same in absurd cc)

unsigned_formed : (oid : List ℕ) (values : List KeptElement) → IsWellFormed (attribute_of oid (elements_of_kept values))
unsigned_formed oid values =
    let inside : IsWellFormed (set (elements_of_kept values)) =
    ((omega arith, omega arith, omega arith), refl, each_formed element_of_kept (λ k. k.der.formed) values) in
    ((omega arith, omega arith, omega arith), refl, (((omega arith, omega arith, omega arith), refl), (inside, tt)))

attribute_formed : (a : UnsignedAttribute) → IsWellFormed (unsigned_attribute a)
attribute_formed (attributes.CounterSign x) = unsigned_formed COUNTERSIGNATURE.now x.items
attribute_formed (attributes.MsCounterSign x) = unsigned_formed RFC3161_COUNTER_SIGN.now x.items
attribute_formed (attributes.Raw x) = unsigned_formed (identifier_contents x.ty) x.values

pub unsigned_attributes : IsGrammar (λ element a. element ≡ unsigned_attribute a) unsigned_attribute (λ a. [])
unsigned_attributes = printed unsigned_attribute attributes_once attribute_formed
