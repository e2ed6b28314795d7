-- Which extension with an OID is the first can be decided.
use Rattle.std.proofs.Common.{◌≡◌, ◌↔◌, IsTrue, Bool, true, false, ℕ, List, [], ◌∷◌, ◌++◌, Option, Some, None, refl, sym, ap, ap₂, subst, ◌∙◌, inl, inr, ◌⊎◌}
use Rattle.std.specs.Prelude.{bytes_eq, not, ◌==◌}
use Rattle.std.proofs.lemmas.Bool.{cases_eq, false≢true}
use Rattle.std.proofs.lemmas.Slice.Eq.{bytes_eq-Decides}
use Rattle.der_core.specs.DerElement.{DerElement, DerElements, Primitive, Constructed, Nil, Cons}
use Rattle.der_core.specs.Default.{IsDefaultFalse}
use Rattle.der_core.specs.Elements.{sequence, octet_string}
use Rattle.asn1_types.specs.Elements.{object_identifier_of}
use Rattle.x509_types.specs.CertificateFields.{kid}
use Rattle.x509_types.specs.FirstExtension.{IsNamed, IsFirstNamed}
use Rattle.x509_types.proofs.FirstExtensions.{first_here, first_later, first_passed, none_first}

-- ---- elements are the same, or not

abbrev pub SameOrNot : {A : Type 0} → A → A → Type 0
SameOrNot a b = (a ≡ b) ⊎ (a ≡ b → ⊥)

by_test : (P : Type 0) (t : Bool) → IsTrue t ↔ P → P ⊎ (P → ⊥)
by_test P true test = inl (test.0 refl)
by_test P false test = inr (λ p. false≢true (test.1 p))

same_octets : (a b : List ℕ) → SameOrNot a b
same_octets a b = by_test (a ≡ b) (bytes_eq a b) (bytes_eq-Decides a b)

both : {A B C : Type 0} (f : A → B → C) (a c : A) (b d : B) → (f a b ≡ f c d → (a ≡ c) × (b ≡ d)) → SameOrNot a c → SameOrNot b d → SameOrNot (f a b) (f c d)
both f a c b d parts (inl p) (inl q) = inl (ap₂ f p q)
both f a c b d parts (inl p) (inr other) = inr (λ e. other (parts e).1)
both f a c b d parts (inr other) q = inr (λ e. other (parts e).0)

mutual
  same_element : (a b : DerElement) → SameOrNot a b
  same_element (Primitive s x) (Primitive t y) = both Primitive s t x y (λ e. (cc, cc)) (cases_eq s t) (same_octets x y)
  same_element (Constructed s x) (Constructed t y) = both Constructed s t x y (λ e. (cc, cc)) (cases_eq s t) (same_elements x y)
  same_element (Primitive s x) (Constructed t y) = inr (λ e. absurd cc)
  same_element (Constructed s x) (Primitive t y) = inr (λ e. absurd cc)

  same_elements : (a b : DerElements) → SameOrNot a b
  same_elements Nil Nil = inl refl
  same_elements (Cons x xs) (Cons y ys) = both Cons x y xs ys (λ e. (cc, cc)) (same_element x y) (same_elements xs ys)
  same_elements Nil (Cons y ys) = inr (λ e. absurd cc)
  same_elements (Cons x xs) Nil = inr (λ e. absurd cc)

-- ---- an extension with an OID, or not

-- without a flag, and with one
abbrev plain : List ℕ → List ℕ → DerElement
plain oid octets = sequence (object_identifier_of oid ∷ octet_string octets ∷ [])

abbrev flagged : List ℕ → ℕ → List ℕ → DerElement
flagged oid flag octets = sequence (object_identifier_of oid ∷ Primitive 0x01 (flag ∷ []) ∷ octet_string octets ∷ [])

abbrev IsEither : List ℕ → DerElement → List ℕ → Type 0
IsEither oid element octets = (element ≡ plain oid octets) ⊎ ((flag : ℕ) × (element ≡ flagged oid flag octets))

by_flag : (oid octets : List ℕ) (element : DerElement) (critical : Bool) (flag : List DerElement) → IsDefaultFalse flag critical
    → element ≡ sequence (object_identifier_of oid ∷ (flag ++ octet_string octets ∷ [])) → IsEither oid element octets
by_flag oid octets element critical [] none is = inl is
by_flag oid octets element critical (kid ∷ []) boolean is =
    inr (boolean.0, is ∙ ap (λ (k : DerElement). sequence (object_identifier_of oid ∷ k ∷ octet_string octets ∷ [])) boolean.1)
by_flag oid octets element critical (kid ∷ more ∷ kids) none is = absurd none

either : (oid : List ℕ) (element : DerElement) (octets : List ℕ) → IsNamed oid element octets → IsEither oid element octets
either oid element octets named = by_flag oid octets element named.0 named.1.flag named.1.flagged named.1.is

-- the contents octets of a kid, and the first of some
abbrev contents_of : Option DerElement → List ℕ
contents_of (Some (Primitive tag octets)) = octets
contents_of (Some (Constructed tag kids)) = []
contents_of None = []

abbrev first_of : List ℕ → ℕ
first_of [] = 0
first_of (octet ∷ octets) = octet

-- what the element is if it is such an extension
abbrev as_plain : List ℕ → DerElement → DerElement
as_plain oid element = plain oid (contents_of (kid 1 element))

abbrev as_flagged : List ℕ → DerElement → DerElement
as_flagged oid element = flagged oid (first_of (contents_of (kid 1 element))) (contents_of (kid 2 element))

named_or_not : (oid : List ℕ) (element : DerElement) → ((octets : List ℕ) × IsNamed oid element octets) ⊎ ((octets : List ℕ) → IsNamed oid element octets → ⊥)
named_or_not oid element =
    elim (same_element element (as_plain oid element)) [
      | inl is ↦ inl (contents_of (kid 1 element), (false, record { flag = []; flagged = refl; is = is }))
      | inr not_plain ↦ elim (same_element element (as_flagged oid element)) [
        | inl is ↦
            let flag = first_of (contents_of (kid 1 element)) in
            inl (contents_of (kid 2 element), (not (flag == 0), record { flag = Primitive 0x01 (flag ∷ []) ∷ []; flagged = (flag, refl, refl); is = is }))
        | inr not_flagged ↦ inr (λ octets named. elim (either oid element octets named) [
          | inl is ↦ not_plain (subst (λ (e : DerElement). e ≡ as_plain oid e) (sym is) refl)
          | inr is ↦ not_flagged (subst (λ (e : DerElement). e ≡ as_flagged oid e) (sym is.1) refl)
        ])
      ]
    ]

-- ---- the first with an OID

-- which is the first, or that none is
pub first_or_not : (oid : List ℕ) (elements : List DerElement)
    → ((octets : List ℕ) × IsFirstNamed oid elements octets) ⊎ ((octets : List ℕ) → IsFirstNamed oid elements octets → ⊥)
first_or_not oid [] = inr (λ octets first. none_first oid [] octets refl first)
first_or_not oid (element ∷ elements) =
    elim (named_or_not oid element) [
      | inl named ↦ inl (named.0, first_here oid (element ∷ elements) elements element named.0 refl named.1)
      | inr other ↦ elim (first_or_not oid elements) [
        | inl first ↦ inl (first.0, first_later oid (element ∷ elements) elements element refl other first.0 first.1)
        | inr none ↦ inr (λ octets first. none octets (first_passed oid (element ∷ elements) elements element refl other octets first))
      ]
    ]

-- if one has the OID, one is the first
pub first_if_some : (oid : List ℕ) (before after : List DerElement) (element : DerElement) (octets : List ℕ) → IsNamed oid element octets
    → (first : List ℕ) × IsFirstNamed oid (before ++ element ∷ after) first
first_if_some oid [] after element octets named = (octets, first_here oid (element ∷ after) after element octets refl named)
first_if_some oid (kid ∷ before) after element octets named =
    elim (named_or_not oid kid) [
      | inl here ↦ (here.0, first_here oid (kid ∷ before ++ element ∷ after) (before ++ element ∷ after) kid here.0 refl here.1)
      | inr other ↦
          let later = first_if_some oid before after element octets named in
          (later.0, first_later oid (kid ∷ before ++ element ∷ after) (before ++ element ∷ after) kid refl other later.0 later.1)
    ]
