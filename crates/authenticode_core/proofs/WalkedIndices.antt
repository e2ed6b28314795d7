-- An issuer walk that is read to its end, and whether a certificate of it has an extended key usage.
use Rattle.std.proofs.Common.{◌≡◌, ◌↔◌, ◌⊎◌, ◌<◌, ◌≤◌, IsTrue, Bool, true, false, ℕ, zero, suc, List, [], ◌∷◌, ◌++◌, inl, inr, sym, subst, append_assoc, arith}
use Rattle.std.specs.Prelude.{Contains, slice_index_or}
use Rattle.std.proofs.lemmas.Bool.{cases_lt}
use Rattle.std.proofs.lemmas.List.{append-nil}
use Rattle.std.proofs.lemmas.List.Elements.{Contains-append_left, Contains-append_cases, Contains-push}
use Rattle.der_core.specs.DerElement.{DerElement}
use Rattle.x509_types.specs.CertificateElements.{CertificateElements}
use Rattle.x509_types.specs.Purposes.{HasPurposes}
use Rattle.authenticode_core.specs.Inside.Naming.{AsksNext}
use Rattle.authenticode_core.specs.IssuerWalk.{IsIssuerWalk, IsWalkFrom}
use Rattle.authenticode_core.specs.Names.{HasSubject}
use Rattle.authenticode_core.specs.Indices.{IsLeastPlace, StandsAt}
use Rattle.authenticode_core.specs.SigningRules.{AsksForPurposes}
use Rattle.authenticode_core.specs.WalkCursor.{LooksFrom, GoesPast}
use Rattle.authenticode_core.specs.declared.bag.issuer_walk.IssuerWalk.{IssuerWalk}
use Rattle.authenticode_core.proofs.WalkSteps.{one_walk, same_certificate}

-- A certificate at one of the indices has an extended key usage.
pub record HasPurposesAmong (bag : List CertificateElements) (places : List ℕ) : Type 0 where
  pub place : ℕ
  pub among : Contains places place
  pub c : CertificateElements
  pub stands : StandsAt bag place c
  pub purposes : HasPurposes c

-- The walk has passed these indices, and goes on from there.
pub record Walked (bag : List CertificateElements) (subject : DerElement) (walk : IssuerWalk) (asks : Bool) : Type 0 where
  pub places : List ℕ
  pub from : ℕ
  pub next : DerElement
  pub looks : LooksFrom walk bag from next
  pub joined : (rest : List ℕ) → IsWalkFrom bag from next rest → IsWalkFrom bag 0 subject (places ++ rest)
  pub asks_is : IsTrue asks ↔ HasPurposesAmong bag places

none_among : (bag : List CertificateElements) → HasPurposesAmong bag [] → ⊥
none_among bag h = let among = h.among in omega (arith, among.1)

pub walked_none : (bag : List CertificateElements) (subject : DerElement) (walk : IssuerWalk) → LooksFrom walk bag 0 subject → Walked bag subject walk false
walked_none bag subject walk looks = record {
  places = [];
  from = 0;
  next = subject;
  looks = looks;
  joined = λ rest w. w;
  asks_is = (λ w. absurd cc, λ h. absurd (none_among bag h));
}

-- ---- one more index

joined_more : (bag : List CertificateElements) (subject next : DerElement) (places : List ℕ) (from place : ℕ) (c : CertificateElements)
    → IsLeastPlace bag (HasSubject next) from place c
    → ((rest : List ℕ) → IsWalkFrom bag from next rest → IsWalkFrom bag 0 subject (places ++ rest))
    → (rest : List ℕ) → IsWalkFrom bag (suc place) c.tbs.issuer rest → IsWalkFrom bag 0 subject ((places ++ place ∷ []) ++ rest)
joined_more bag subject next places from place c least joined rest w =
    subst (λ (ps : List ℕ). IsWalkFrom bag 0 subject ps) (sym (append_assoc places (place ∷ []) rest)) (joined (place ∷ rest) (c, least, w))

still_among : (bag : List CertificateElements) (places : List ℕ) (place : ℕ) → HasPurposesAmong bag places → HasPurposesAmong bag (places ++ place ∷ [])
still_among bag places place h = record {
  place = h.place;
  among = Contains-append_left places (place ∷ []) h.place h.among;
  c = h.c;
  stands = h.stands;
  purposes = h.purposes;
}

now_among : (bag : List CertificateElements) (places : List ℕ) (place : ℕ) (c : CertificateElements) → StandsAt bag place c → HasPurposes c
    → HasPurposesAmong bag (places ++ place ∷ [])
now_among bag places place c stands purposes = record { place = place; among = Contains-push places place; c = c; stands = stands; purposes = purposes }

is_last_at : (place other k : ℕ) → k < 1 → slice_index_or (place ∷ []) k other ≡ other → place ≡ other
is_last_at place other zero lt e = e
is_last_at place other (suc k) lt e = absurd (omega (arith, lt))

is_last : (place other : ℕ) → Contains (place ∷ []) other → place ≡ other
is_last place other last = is_last_at place other last.0 (omega (arith, last.1)) last.2

-- what holds with one more index
asks_more : (bag : List CertificateElements) (places : List ℕ) (place : ℕ) (c : CertificateElements) (asks : Bool) → StandsAt bag place c
    → (IsTrue asks → HasPurposesAmong bag places) → IsTrue asks ⊎ HasPurposes c
    → HasPurposesAmong bag (places ++ place ∷ [])
asks_more bag places place c asks stands returned (inl t) = still_among bag places place (returned t)
asks_more bag places place c asks stands returned (inr purposes) = now_among bag places place c stands purposes

asks_back : (bag : List CertificateElements) (places : List ℕ) (place : ℕ) (c : CertificateElements) (asks : Bool) → StandsAt bag place c
    → (HasPurposesAmong bag places → IsTrue asks) → (h : HasPurposesAmong bag (places ++ place ∷ []))
    → Contains places h.place ⊎ Contains (place ∷ []) h.place → IsTrue asks ⊎ HasPurposes c
asks_back bag places place c asks stands returned h (inl among) =
    inl (returned (record { place = h.place; among = among; c = h.c; stands = h.stands; purposes = h.purposes }))
asks_back bag places place c asks stands returned h (inr last) =
    inr (subst HasPurposes (same_certificate bag place h.place c h.c (is_last place h.place last) stands h.stands) h.purposes)

least_here : (bag : List CertificateElements) (holds : CertificateElements → Type 0) (place : ℕ) (c : CertificateElements) → StandsAt bag place c → holds c
    → IsLeastPlace bag holds place place c
least_here bag holds place c stands fits =
    record { later = omega arith; stands = stands; fits = fits; least = λ other d later before at is. absurd (omega (arith, later, before)) }

-- the certificate at the index is the next one of the walk
walked_more : (bag : List CertificateElements) (subject : DerElement) (walk next : IssuerWalk) (asks asks' : Bool) (c : CertificateElements)
    (w : Walked bag subject walk asks) → StandsAt bag w.from c → HasSubject w.next c
    → LooksFrom next bag (suc w.from) c.tbs.issuer → IsTrue asks' ↔ (IsTrue asks ⊎ HasPurposes c) → Walked bag subject next asks'
walked_more bag subject walk next asks asks' c w stands fits looks asked = record {
  places = w.places ++ w.from ∷ [];
  from = suc w.from;
  next = c.tbs.issuer;
  looks = looks;
  joined = joined_more bag subject w.next w.places w.from w.from c (least_here bag (HasSubject w.next) w.from c stands fits) w.joined;
  asks_is = (
    λ t. asks_more bag w.places w.from c asks stands w.asks_is.0 (asked.0 t),
    λ h. asked.1 (asks_back bag w.places w.from c asks stands w.asks_is.1 h (Contains-append_cases w.places (w.from ∷ []) h.place h.among)),
  );
}

-- ---- a skipped index

apart : (bag : List CertificateElements) (subject : DerElement) (from place : ℕ) (c d : CertificateElements) → StandsAt bag from c → (HasSubject subject c → ⊥)
    → from ≤ place → StandsAt bag place d → HasSubject subject d
    → (from < place) ⊎ (place ≤ from) → suc from ≤ place
apart bag subject from place c d stands other later at fits (inl less) = omega (arith, less)
apart bag subject from place c d stands other later at fits (inr more) =
    let same : from ≡ place = omega (arith, later, more) in
    absurd (other (subst (HasSubject subject) (same_certificate bag from place c d same stands at) fits))

behind : (bag : List CertificateElements) (subject : DerElement) (from : ℕ) (c : CertificateElements) (rest : List ℕ) → StandsAt bag from c
    → (HasSubject subject c → ⊥) → IsWalkFrom bag (suc from) subject rest → IsWalkFrom bag from subject rest
behind bag subject from c [] stands other none =
    λ place d later at fits. none place d (apart bag subject from place c d stands other later at fits (cases_lt from place)) at fits
behind bag subject from c (place ∷ places) stands other w = (
  w.0,
  record {
    later = omega (arith, w.1.later);
    stands = w.1.stands;
    fits = w.1.fits;
    least = λ p d later before at fits. w.1.least p d (apart bag subject from p c d stands other later at fits (cases_lt from p)) before at fits;
  },
  w.2,
)

walked_past : (bag : List CertificateElements) (subject : DerElement) (walk next : IssuerWalk) (asks asks' : Bool) (c : CertificateElements)
    (w : Walked bag subject walk asks) → StandsAt bag w.from c → (HasSubject w.next c → ⊥)
    → LooksFrom next bag (suc w.from) w.next → asks' ≡ asks → Walked bag subject next asks'
walked_past bag subject walk next asks asks' c w stands other looks same = record {
  places = w.places;
  from = suc w.from;
  next = w.next;
  looks = looks;
  joined = λ rest further. w.joined rest (behind bag w.next w.from c rest stands other further);
  asks_is = subst (λ (b : Bool). IsTrue b ↔ HasPurposesAmong bag w.places) (sym same) w.asks_is;
}

pub walked_step : (bag : List CertificateElements) (subject : DerElement) (walk next : IssuerWalk) (asks asks' on_walk : Bool) (c : CertificateElements)
    (w : Walked bag subject walk asks) → StandsAt bag w.from c
    → GoesPast next bag w.from w.next c on_walk → AsksNext asks on_walk c asks' → Walked bag subject next asks'
walked_step bag subject walk next asks asks' true c w stands goes asked = walked_more bag subject walk next asks asks' c w stands goes.0 goes.1 asked
walked_step bag subject walk next asks asks' false c w stands goes same = walked_past bag subject walk next asks asks' c w stands goes.0 goes.1 same

-- ---- the end

pub walked_all : (bag : List CertificateElements) (signer : CertificateElements) (walk : IssuerWalk) (asks : Bool)
    → ((from : ℕ) (x : DerElement) → LooksFrom walk bag from x → IsWalkFrom bag from x [])
    → Walked bag signer.tbs.subject walk asks → IsTrue asks ↔ AsksForPurposes bag signer
walked_all bag signer walk asks ends w =
    let whole : IsIssuerWalk bag signer w.places =
    subst (λ (ps : List ℕ). IsWalkFrom bag 0 signer.tbs.subject ps) (append-nil w.places) (w.joined [] (ends w.from w.next w.looks)) in (
      λ t.
          let h = w.asks_is.0 t in
          record { places = w.places; walk = whole; place = h.place; among = h.among; c = h.c; stands = h.stands; purposes = h.purposes },
      λ asked. w.asks_is.1 (record {
        place = asked.place;
        among = subst (λ (ps : List ℕ). Contains ps asked.place) (one_walk bag signer asked.places w.places asked.walk whole) asked.among;
        c = asked.c;
        stands = asked.stands;
        purposes = asked.purposes;
      }),
    )
