-- There is an issuer walk from each index of a bag, for each subject, and there are the indices
-- without those of a subject.
use Rattle.std.proofs.Common.{◌≡◌, ◌+◌, ◌≤◌, ◌⊎◌, true, false, ℕ, zero, suc, List, [], ◌∷◌, length, bytes_eq, inl, inr, refl, sym, subst, arith}
use Rattle.std.proofs.lemmas.Bool.{both_ways, cases_Bool, cases_eq}
use Rattle.std.proofs.lemmas.Option.{slice_get_cases, slice_get_within}
use Rattle.std.proofs.lemmas.Slice.Eq.{bytes_eq-Decides}
use Rattle.der_core.specs.DerElement.{DerElement}
use Rattle.der_core.specs.Encoding.{encoding}
use Rattle.x509_types.specs.CertificateElements.{CertificateElements}
use Rattle.authenticode_core.specs.IssuerWalk.{IsWalkFrom, HasSubjectAt, AreOthers}
use Rattle.authenticode_core.specs.Names.{HasSubject}
use Rattle.authenticode_core.specs.Indices.{StandsAt, HasNoPlaceBetween, HasNoPlace}
use Rattle.authenticode_core.proofs.WalkSteps.{same_certificate}

-- ---- a certificate has a subject or not

tested : (a b : List ℕ) → (bytes_eq a b ≡ true) ⊎ (bytes_eq a b ≡ false) → (a ≡ b) ⊎ (a ≡ b → ⊥)
tested a b (inl same) = inl ((bytes_eq-Decides a b).0 same)
tested a b (inr differ) = inr (λ e. both_ways (bytes_eq a b) differ ((bytes_eq-Decides a b).1 e))

has_subject : (subject : DerElement) (c : CertificateElements) → HasSubject subject c ⊎ (HasSubject subject c → ⊥)
has_subject subject c = tested (encoding c.tbs.subject) (encoding subject) (cases_Bool (bytes_eq (encoding c.tbs.subject) (encoding subject)))

-- an index of a bag, or the one after the last
abbrev IsAt : List CertificateElements → ℕ → Type 0
IsAt bag place = ((c : CertificateElements) × StandsAt bag place c) ⊎ (length bag ≤ place)

is_at : (bag : List CertificateElements) (place : ℕ) → IsAt bag place
is_at bag place = elim (slice_get_cases bag place).1 as (λ _. IsAt bag place) [ inl (c, within, stands, same) ↦ inl (c, stands) | inr (past, none) ↦ inr past ]

-- ---- walks

none_past : (bag : List CertificateElements) (holds : CertificateElements → Type 0) (from : ℕ) → length bag ≤ from → HasNoPlace bag holds from
none_past bag holds from past place c later stands fits = omega (arith, slice_get_within bag place c stands)

-- if the first one doesn't fit, one that fits is after it
later_yet : (bag : List CertificateElements) (holds : CertificateElements → Type 0) (from : ℕ) (c : CertificateElements) → StandsAt bag from c → (holds c → ⊥)
    → (place : ℕ) (d : CertificateElements) → from ≤ place → StandsAt bag place d → holds d
    → (place ≡ from) ⊎ (place ≡ from → ⊥) → suc from ≤ place
later_yet bag holds from c stands fails place d later at fits (inl e) =
    absurd (fails (subst holds (same_certificate bag from place c d (sym e) stands at) fits))
later_yet bag holds from c stands fails place d later at fits (inr other) = omega (arith, other, later)

passed : (bag : List CertificateElements) (from : ℕ) (c : CertificateElements) (subject : DerElement) (places : List ℕ) → StandsAt bag from c
    → (HasSubject subject c → ⊥) → IsWalkFrom bag (suc from) subject places → IsWalkFrom bag from subject places
passed bag from c subject [] stands fails none =
    λ place d later at fits. none place d (later_yet bag (HasSubject subject) from c stands fails place d later at fits (cases_eq place from)) at fits
passed bag from c subject (first ∷ places) stands fails w = (
  w.0,
  record {
    later = omega (arith, w.1.later);
    stands = w.1.stands;
    fits = w.1.fits;
    least = λ place d later before at fits.
        w.1.least place d (later_yet bag (HasSubject subject) from c stands fails place d later at fits (cases_eq place from)) before at fits;
  },
  w.2,
)

none_before : (bag : List CertificateElements) (holds : CertificateElements → Type 0) (from : ℕ) → HasNoPlaceBetween bag holds from from
none_before bag holds from place c later before stands fits = omega (arith, later, before)

-- some walk from the index, for the subject
abbrev HasWalk : List CertificateElements → ℕ → DerElement → Type 0
HasWalk bag from subject = (places : List ℕ) × IsWalkFrom bag from subject places

goes_on : (bag : List CertificateElements) (from : ℕ) (subject : DerElement) (c : CertificateElements) → StandsAt bag from c
    → ((s : DerElement) → HasWalk bag (suc from) s) → HasSubject subject c ⊎ (HasSubject subject c → ⊥) → HasWalk bag from subject
goes_on bag from subject c stands behind (inl has) =
    let others = behind c.tbs.issuer in
    (from ∷ others.0, (c, record { later = omega arith; stands = stands; fits = has; least = none_before bag (HasSubject subject) from }, others.1))
goes_on bag from subject c stands behind (inr fails) =
    let others = behind subject in
    (others.0, passed bag from c subject others.0 stands fails others.1)

walk_at : (bag : List CertificateElements) (from : ℕ) (subject : DerElement) → ((s : DerElement) → HasWalk bag (suc from) s) → IsAt bag from
    → HasWalk bag from subject
walk_at bag from subject behind (inl (c, stands)) = goes_on bag from subject c stands behind (has_subject subject c)
walk_at bag from subject behind (inr past) = ([], none_past bag (HasSubject subject) from past)

walk_within : (left : ℕ) (bag : List CertificateElements) (from : ℕ) (subject : DerElement) → length bag ≤ from + left → HasWalk bag from subject
walk_within zero bag from subject enough = ([], none_past bag (HasSubject subject) from (omega (arith, enough)))
walk_within (suc left) bag from subject enough = walk_at bag from subject (λ s. walk_within left bag (suc from) s (omega (arith, enough))) (is_at bag from)

pub some_walk : (bag : List CertificateElements) (subject : DerElement) → (places : List ℕ) × IsWalkFrom bag 0 subject places
some_walk bag subject = walk_within (length bag) bag 0 subject (omega arith)

-- ---- the indices without those of a subject

subject_of : (bag : List CertificateElements) (subject : DerElement) (place : ℕ) (c : CertificateElements) → StandsAt bag place c
    → HasSubject subject c ⊎ (HasSubject subject c → ⊥) → HasSubjectAt bag subject place ⊎ (HasSubjectAt bag subject place → ⊥)
subject_of bag subject place c stands (inl has) = inl (c, stands, has)
subject_of bag subject place c stands (inr fails) = inr (λ h. fails (subst (HasSubject subject) (same_certificate bag place place c h.0 refl stands h.1) h.2))

subject_at : (bag : List CertificateElements) (subject : DerElement) (place : ℕ) → IsAt bag place
    → HasSubjectAt bag subject place ⊎ (HasSubjectAt bag subject place → ⊥)
subject_at bag subject place (inl (c, stands)) = subject_of bag subject place c stands (has_subject subject c)
subject_at bag subject place (inr past) = inr (λ h. omega (arith, past, slice_get_within bag place h.0 h.1))

-- some indices without those of the subject
abbrev HasOthers : List CertificateElements → DerElement → List ℕ → Type 0
HasOthers bag subject places = (path : List ℕ) × AreOthers bag subject places path

one_more : (bag : List CertificateElements) (subject : DerElement) (place : ℕ) (places : List ℕ) → HasOthers bag subject places
    → HasSubjectAt bag subject place ⊎ (HasSubjectAt bag subject place → ⊥) → HasOthers bag subject (place ∷ places)
one_more bag subject place places others (inl has) = (others.0, inl (has, others.1))
one_more bag subject place places others (inr fails) = (place ∷ others.0, inr (fails, others.0, refl, others.1))

pub some_others : (bag : List CertificateElements) (subject : DerElement) (places : List ℕ) → (path : List ℕ) × AreOthers bag subject places path
some_others bag subject [] = ([], refl)
some_others bag subject (place ∷ places) = one_more bag subject place places (some_others bag subject places) (subject_at bag subject place (is_at bag place))
