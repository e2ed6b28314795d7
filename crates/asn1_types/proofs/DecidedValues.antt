-- Whether octets are the contents of an OID can be decided.
use Rattle.std.proofs.Common.{◌≡◌, ◌↔◌, ℕ, zero, suc, ◌^◌, ◌≤◌, Bool, true, false, IsTrue, Option, Some, None}
use Rattle.std.proofs.Common.{List, [], ◌∷◌, ◌++◌, length, refl, sym, ap, ap₂, subst, ◌∙◌, arith, inl, inr, ◌⊎◌}
use Rattle.std.specs.Prelude.{bytes_eq}
use Rattle.std.proofs.lemmas.Bool.{cases_lt, false≢true}
use Rattle.std.proofs.lemmas.Slice.Eq.{bytes_eq-Decides}
use Rattle.der_core.proofs.DecidedValues.{IsSomeOrNone}
use Rattle.asn1_types.specs.ObjectIdentifier.{IsIdentifier}
use Rattle.asn1_types.specs.Subidentifier.{subidentifier, BeginsWithSubidentifier, BeginsWithNoSubidentifier}
use Rattle.asn1_types.specs.Values.{identifier_contents}
use Rattle.asn1_types.specs.Facts.SubidentifierReading.{read_after, read_subidentifier}
use Rattle.asn1_types.proofs.Subidentifiers.{AreSubidentifiers, after_shorter, are_where_rest, are_none, are_empty}
use Rattle.asn1_types.proofs.Identifiers.{contents_are, contents_from}

-- ---- octets that begin with a subidentifier

abbrev found : ℕ → List ℕ → Option (ℕ × List ℕ)
found n after = Some (n, after)

some_is : (m n : ℕ) (x y : List ℕ) → found m x ≡ found n y → (m ≡ n) × (x ≡ y)
some_is m n x y e =
    let number : Option (ℕ × List ℕ) → ℕ = λ r. elim r [ None ↦ 0 | Some p ↦ p.0 ] in
    let rest : Option (ℕ × List ℕ) → List ℕ = λ r. elim r [ None ↦ [] | Some p ↦ p.1 ] in
    (ap number e, ap rest e)

none_is : (n : ℕ) (x : List ℕ) → found n x ≡ None → ⊥
none_is n x e = absurd cc

by_test : (P : Type 0) (t : Bool) → IsTrue t ↔ P → P ⊎ (P → ⊥)
by_test P true test = inl (test.0 refl)
by_test P false test = inr (λ p. false≢true (test.1 p))

same_or_not : (a b : List ℕ) → (a ≡ b) ⊎ (a ≡ b → ⊥)
same_or_not a b = by_test (a ≡ b) (bytes_eq a b) (bytes_eq-Decides a b)

read_is : (octets : List ℕ) (r : Option (ℕ × List ℕ)) (n : ℕ) (after : List ℕ) → read_after 0 octets ≡ r
    → octets ≡ subidentifier n ++ after → found n after ≡ r
read_is octets r n after read is = sym (read_subidentifier n after) ∙ ap (read_after 0) (sym is) ∙ read

by_reading : (octets : List ℕ) (r : Option (ℕ × List ℕ)) → read_after 0 octets ≡ r
    → ((after : List ℕ) × BeginsWithSubidentifier octets after) ⊎ BeginsWithNoSubidentifier octets
by_reading octets None read = inr (λ n after bounded is. none_is n after (read_is octets None n after read is))
by_reading octets (Some p) read =
    elim (cases_lt p.0 (2 ^ 128)) [
      | inr past ↦ inr (λ n after bounded is. let same = some_is n p.0 after p.1 (read_is octets (Some p) n after read is) in
          omega (arith, bounded, past, same.0))
      | inl bounded ↦ elim (same_or_not octets (subidentifier p.0 ++ p.1)) [
        | inl is ↦ inl (p.1, record { number = p.0; bounded = bounded; spelled = is })
        | inr other ↦ inr (λ n after bounded is.
            let same = some_is n p.0 after p.1 (read_is octets (Some p) n after read is) in
            other (is ∙ ap₂ (λ m r. subidentifier m ++ r) same.0 same.1))
      ]
    ]

-- ---- contents octets of an OID

are_or_not : (fuel : ℕ) (octets : List ℕ) → length octets ≤ fuel → AreSubidentifiers octets ⊎ (AreSubidentifiers octets → ⊥)
are_or_not fuel [] enough = inl (are_empty [] refl)
are_or_not zero (octet ∷ octets) enough = absurd (omega arith)
are_or_not (suc fuel) (octet ∷ octets) enough =
    elim (by_reading (octet ∷ octets) (read_after 0 (octet ∷ octets)) refl) [
      | inr none ↦ inr (are_none (octet ∷ octets) none (λ e. absurd cc))
      | inl begins ↦
          let first = begins.1 in
          let step = are_where_rest (octet ∷ octets) begins.0 first.number first.bounded first.spelled in
          elim (are_or_not fuel begins.0 (omega (arith, after_shorter (octet ∷ octets) begins.0 first.number first.spelled))) [
            | inl are ↦ inl (step.1 are)
            | inr none ↦ inr (λ are. none (step.0 are))
          ]
    ]

identifier_or_not : (octets : List ℕ) → IsIdentifier octets ⊎ (IsIdentifier octets → ⊥)
identifier_or_not [] = inr (λ identifier. (contents_are [] identifier).1 refl)
identifier_or_not (octet ∷ octets) =
    elim (are_or_not (length (octet ∷ octets)) (octet ∷ octets) (omega arith)) [
      | inl are ↦ inl (contents_from (octet ∷ octets) are (λ e. absurd cc))
      | inr none ↦ inr (λ identifier. none (contents_are (octet ∷ octets) identifier).0)
    ]

pub oid_or_not : (octets : List ℕ) → IsSomeOrNone identifier_contents octets
oid_or_not octets =
    elim (identifier_or_not octets) [
      | inl formed ↦ inl (record { contents = octets; formed = formed }, refl)
      | inr none ↦ inr (λ identifier e. none (subst IsIdentifier (sym e) identifier.formed))
    ]
