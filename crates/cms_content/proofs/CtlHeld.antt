-- The values of attributes of entries, by kind.
use mathlib.Core.Logic.{∥∥₁_elim}
use Rattle.std.proofs.Common.{◌≡◌, ℕ, Result, Ok, Err, MatchResult, List, [], ◌∷◌, flat_map, sym, subst, ◌∙◌}
use Rattle.der_core.specs.DerElement.{DerElement}
use Rattle.der_core.specs.Each.{IsListOf, IsWrittenList, list_element}
use Rattle.der_core.specs.Elements.{sequence, octet_string}
use Rattle.der_core.specs.Encoding.{IsWellFormed}
use Rattle.der_core.specs.Owned.{KeptElement}
use Rattle.der_core.specs.Refusals.{RefusesInner}
use Rattle.der_core.specs.Facts.Lists.{list_printed, none_inner}
use Rattle.der_core.specs.declared.error.DerError.{DerError}
use Rattle.asn1_types.specs.declared.oid.ObjectIdentifier.{ObjectIdentifier}
use Rattle.cms_content.specs.HeldPurposes.{ArePurposesIn}
use Rattle.cms_content.specs.HeldPurposesElement.{held_purposes}
use Rattle.cms_content.specs.CtlValues.{kind_of_ctl, ctl_values, AreCtlValuesOf}
use Rattle.cms_content.specs.declared.ctl_kind.CtlKind.{CtlKind}
use Rattle.cms_content.specs.declared.ctl_kind.CtlKind.TheVariants as kinds
use Rattle.cms_content.specs.declared.ctl_values.CTLEntryAttributeValues.{CTLEntryAttributeValues}
use Rattle.cms_content.specs.declared.ctl_values.CTLEntryAttributeValues.TheVariants as values
use Rattle.cms_content.specs.declared.held_purposes.HeldPurposes.{HeldPurposes}

-- ---- values of a kind are a list of the kind's own

abbrev pub kept_element : KeptElement → DerElement
kept_element k = k.element

abbrev IsString : DerElement → List ℕ → Type 0
IsString kid octets = kid ≡ octet_string octets

abbrev IsHeld : DerElement → HeldPurposes → Type 0
IsHeld kid held = kid ≡ held_purposes held

abbrev IsKeptElement : DerElement → KeptElement → Type 0
IsKeptElement kid k = kid ≡ k.element

abbrev Held : CtlKind → DerElement → Type 0
Held kinds.CertSubjectNameMd5HashPropId element = (xs : List (List ℕ)) × IsListOf 0x31 IsString element xs
Held kinds.CertDisallowedFileTimePropId element = (xs : List (List ℕ)) × IsListOf 0x31 IsString element xs
Held kinds.UnknownReservedPropId126 element = (xs : List (List ℕ)) × IsListOf 0x31 IsString element xs
Held kinds.UnknownReservedPropId127 element = (xs : List HeldPurposes) × IsListOf 0x31 IsHeld element xs
Held kinds.Other element = (xs : List KeptElement) × IsListOf 0x31 IsKeptElement element xs

held : (element : DerElement) (vs : CTLEntryAttributeValues) → element ≡ ctl_values vs → Held (kind_of_ctl vs) element
held element (values.CertSubjectNameMd5HashPropId x) is = (x, list_printed octet_string 0x31 element x is)
held element (values.CertDisallowedFileTimePropId x) is = (x, list_printed octet_string 0x31 element x is)
held element (values.UnknownReservedPropId126 x) is = (x, list_printed octet_string 0x31 element x is)
held element (values.UnknownReservedPropId127 x) is = (x, list_printed held_purposes 0x31 element x is)
held element (values.Other x) is = (x, list_printed kept_element 0x31 element x is)

held_of : (kind named : CtlKind) (element : DerElement) (vs : CTLEntryAttributeValues) → kind ≡ named → AreCtlValuesOf kind element vs → Held named element
held_of kind named element vs is of = subst (λ (k : CtlKind). Held k element) (of.0 ∙ is) (held element vs of.1)

pub hashes_of : (kind : CtlKind) (element : DerElement) (vs : CTLEntryAttributeValues) → kind ≡ kinds.CertSubjectNameMd5HashPropId
    → AreCtlValuesOf kind element vs → (xs : List (List ℕ)) × IsListOf 0x31 IsString element xs
hashes_of kind element vs is of = held_of kind kinds.CertSubjectNameMd5HashPropId element vs is of

pub times_of : (kind : CtlKind) (element : DerElement) (vs : CTLEntryAttributeValues) → kind ≡ kinds.CertDisallowedFileTimePropId
    → AreCtlValuesOf kind element vs → (xs : List (List ℕ)) × IsListOf 0x31 IsString element xs
times_of kind element vs is of = held_of kind kinds.CertDisallowedFileTimePropId element vs is of

pub starts_of : (kind : CtlKind) (element : DerElement) (vs : CTLEntryAttributeValues) → kind ≡ kinds.UnknownReservedPropId126 → AreCtlValuesOf kind element vs
    → (xs : List (List ℕ)) × IsListOf 0x31 IsString element xs
starts_of kind element vs is of = held_of kind kinds.UnknownReservedPropId126 element vs is of

pub purposes_of : (kind : CtlKind) (element : DerElement) (vs : CTLEntryAttributeValues) → kind ≡ kinds.UnknownReservedPropId127
    → AreCtlValuesOf kind element vs → (xs : List HeldPurposes) × IsListOf 0x31 IsHeld element xs
purposes_of kind element vs is of = held_of kind kinds.UnknownReservedPropId127 element vs is of

pub others_of : (kind : CtlKind) (element : DerElement) (vs : CTLEntryAttributeValues) → kind ≡ kinds.Other → AreCtlValuesOf kind element vs
    → (xs : List KeptElement) × IsListOf 0x31 IsKeptElement element xs
others_of kind element vs is of = held_of kind kinds.Other element vs is of

-- ---- what is written for a list is written for the values

pub set_written : {X : Type 0} (written : X → DerElement) (vs : CTLEntryAttributeValues) (xs : List X) (r : Result DerElement DerError)
    → ctl_values vs ≡ list_element 0x31 written xs
    → MatchResult r (IsWrittenList 0x31 written (λ (x : X). []) xs) (RefusesInner (flat_map (λ (x : X). []) xs))
    → MatchResult r (λ tree. (tree ≡ ctl_values vs) × IsWellFormed tree) (RefusesInner [])
set_written written vs xs (Ok tree) is list = (list.is ∙ sym is, list.formed)
set_written written vs xs (Err e) is refused = subst (λ i. RefusesInner i e) (none_inner xs) refused

-- ---- extended key usages in a string

pub no_purposes : (e : DerElement) (octets : List ℕ) (v : HeldPurposes) → e ≡ octet_string octets → e ≡ held_purposes v
    → ((purposes : List ObjectIdentifier) → ArePurposesIn octets purposes → ⊥) → ⊥
no_purposes e octets v at is none =
    let elements : octet_string v.octets ≡ octet_string octets = sym is ∙ at in
    let same : v.octets ≡ octets = cc in
    ∥∥₁_elim v.are (λ x y. absurd x) (λ are. none v.purposes (subst (λ (o : List ℕ). ArePurposesIn o v.purposes) same are))

-- ---- entries

pub second_kid : (e s t x y : DerElement) → e ≡ sequence (s ∷ t ∷ []) → e ≡ sequence (x ∷ y ∷ []) → t ≡ y
second_kid e s t x y is is' = let same : sequence (s ∷ t ∷ []) ≡ sequence (x ∷ y ∷ []) = sym is ∙ is' in cc
