-- The issuer walk among the contained certificates: what it meets, it meets among all given ones,
-- since a root is its own issuer.
use Rattle.std.proofs.Common.{◌≡◌, ◌⊎◌, Bool, true, false, ℕ, zero, suc, List, [], ◌∷◌, Some, map, inl, inr, refl, sym, ap, subst, ◌∙◌, arith}
use Rattle.std.specs.Prelude.{Contains, bytes_eq}
use Rattle.std.proofs.lemmas.Bool.{both_ways}
use Rattle.std.proofs.lemmas.Slice.Eq.{bytes_eq-Decides}
use Rattle.der_core.specs.DerElement.{DerElement}
use Rattle.der_core.specs.Encoding.{encoding}
use Rattle.x509_types.specs.CertificateElements.{CertificateElements}
use Rattle.authenticode_core.specs.IssuerWalk.{IsWalkFrom}
use Rattle.authenticode_core.specs.Indices.{StandsAt}
use Rattle.authenticode_core.specs.SigningRules.{AsksForPurposes, IsForCodeSigning}
use Rattle.authenticode_core.proofs.WalkSteps.{one_walk}
use Rattle.authenticode_parts.specs.Carried.{AreCarried, AreWithoutRoots, IsRootCertificate}
use Rattle.authenticode_signature.proofs.Walks.{begun, further, passed}

-- A walk that looks for a subject, given by its octets, meets the certificate.
abbrev Meets : List ℕ → List CertificateElements → CertificateElements → Type 0
Meets subject [] d = ⊥
Meets subject (c ∷ bag) d =
    ((encoding c.tbs.subject ≡ subject) × ((d ≡ c) ⊎ Meets (encoding c.tbs.issuer) bag d))
    ⊎ ((encoding c.tbs.subject ≡ subject → ⊥) × Meets subject bag d)

-- ---- the walk, and what it meets

-- The walk by its indices, with the certificates there.
record Walk (bag : List CertificateElements) (subject : DerElement) : Type 0 where
  places : List ℕ
  walk : IsWalkFrom bag 0 subject places
  met : (place : ℕ) (d : CertificateElements) → Contains places place → StandsAt bag place d → Meets (encoding subject) bag d
  meets : (d : CertificateElements) → Meets (encoding subject) bag d → (place : ℕ) × Contains places place × StandsAt bag place d

none : (subject : DerElement) → Walk [] subject
none subject = record {
  places = [];
  walk = λ place c later stands fits. absurd (cc stands);
  met = λ place d among stands. absurd (cc stands);
  meets = λ d m. absurd m;
}

contains_suc : (places : List ℕ) (place : ℕ) → Contains places place → Contains (map (λ n. suc n) places) (suc place)
contains_suc [] place h = absurd (omega (arith, h.1))
contains_suc (p ∷ places) place (zero, less, is) = (0, omega arith, ap (λ n. suc n) is)
contains_suc (p ∷ places) place (suc k, less, is) =
    let rest = contains_suc places place (k, omega (arith, less), is) in
    (suc rest.0, omega (arith, rest.1), rest.2)

suc_contains : (places : List ℕ) (place : ℕ) → Contains (map (λ n. suc n) places) place → (before : ℕ) × (place ≡ suc before) × Contains places before
suc_contains [] place h = absurd (omega (arith, h.1))
suc_contains (p ∷ places) place (zero, less, is) = (p, sym is, (0, omega arith, refl))
suc_contains (p ∷ places) place (suc k, less, is) =
    let rest = suc_contains places place (k, omega (arith, less), is) in
    (rest.0, rest.1, (suc rest.2.0, omega (arith, rest.2.1), rest.2.2))

first_or_later : (p place : ℕ) (places : List ℕ) → Contains (p ∷ places) place → (p ≡ place) ⊎ Contains places place
first_or_later p place places (zero, less, is) = inl is
first_or_later p place places (suc k, less, is) = inr (k, omega (arith, less), is)

later : (p place : ℕ) (places : List ℕ) → Contains places place → Contains (p ∷ places) place
later p place places h = (suc h.0, omega (arith, h.1), h.2)

stands_later : (c d : CertificateElements) (bag : List CertificateElements) (place before : ℕ) → place ≡ suc before → StandsAt (c ∷ bag) place d
    → StandsAt bag before d
stands_later c d bag place before e stands = subst (λ (n : ℕ). StandsAt (c ∷ bag) n d) e stands

is_first : (c d : CertificateElements) (bag : List CertificateElements) (place : ℕ) → 0 ≡ place → StandsAt (c ∷ bag) place d → d ≡ c
is_first c d bag place e stands =
    let here : Some c ≡ Some d = subst (λ (n : ℕ). StandsAt (c ∷ bag) n d) (sym e) stands in
    cc

one_more : (c : CertificateElements) (bag : List CertificateElements) (subject : DerElement) → encoding c.tbs.subject ≡ encoding subject → Walk bag c.tbs.issuer
    → Walk (c ∷ bag) subject
one_more c bag subject has w = record {
  places = 0 ∷ map (λ n. suc n) w.places;
  walk = begun c bag subject w.places has w.walk;
  met = λ place d among stands. met_at place d stands (first_or_later 0 place (map (λ n. suc n) w.places) among);
  meets = met_where;
}
  where
    met_at : (place : ℕ) (d : CertificateElements) → StandsAt (c ∷ bag) place d → (0 ≡ place) ⊎ Contains (map (λ n. suc n) w.places) place
        → Meets (encoding subject) (c ∷ bag) d
    met_at place d stands (inl e) = inl (has, inl (is_first c d bag place e stands))
    met_at place d stands (inr among) =
        let before = suc_contains w.places place among in
        inl (has, inr (w.met before.0 d before.2 (stands_later c d bag place before.0 before.1 stands)))

    met_where : (d : CertificateElements) → Meets (encoding subject) (c ∷ bag) d
        → (place : ℕ) × Contains (0 ∷ map (λ n. suc n) w.places) place × StandsAt (c ∷ bag) place d
    met_where d (inl (e, inl is)) = (0, (0, omega arith, refl), ap Some (sym is))
    met_where d (inl (e, inr m)) =
        let at = w.meets d m in
        (suc at.0, later 0 (suc at.0) (map (λ n. suc n) w.places) (contains_suc w.places at.0 at.1), at.2)
    met_where d (inr (other, m)) = absurd (other has)

goes_on : (c : CertificateElements) (bag : List CertificateElements) (subject : DerElement) → (encoding c.tbs.subject ≡ encoding subject → ⊥) → Walk bag subject
    → Walk (c ∷ bag) subject
goes_on c bag subject other w = record {
  places = map (λ n. suc n) w.places;
  walk = passed c bag subject (map (λ n. suc n) w.places) other (further c bag 0 subject w.places w.walk);
  met = met_at;
  meets = met_where;
}
  where
    met_at : (place : ℕ) (d : CertificateElements) → Contains (map (λ n. suc n) w.places) place → StandsAt (c ∷ bag) place d
        → Meets (encoding subject) (c ∷ bag) d
    met_at place d among stands =
        let before = suc_contains w.places place among in
        inr (other, w.met before.0 d before.2 (stands_later c d bag place before.0 before.1 stands))

    met_where : (d : CertificateElements) → Meets (encoding subject) (c ∷ bag) d
        → (place : ℕ) × Contains (map (λ n. suc n) w.places) place × StandsAt (c ∷ bag) place d
    met_where d (inl (e, m)) = absurd (other e)
    met_where d (inr (e, m)) =
        let at = w.meets d m in
        (suc at.0, contains_suc w.places at.0 at.1, at.2)

decided : (c : CertificateElements) (bag : List CertificateElements) (subject : DerElement) (test : Bool)
    → bytes_eq (encoding c.tbs.subject) (encoding subject) ≡ test → Walk bag c.tbs.issuer → Walk bag subject → Walk (c ∷ bag) subject
decided c bag subject true e issuers others = one_more c bag subject ((bytes_eq-Decides (encoding c.tbs.subject) (encoding subject)).0 e) issuers
decided c bag subject false e issuers others =
    goes_on c bag subject
    (λ same. both_ways (bytes_eq (encoding c.tbs.subject) (encoding subject)) e ((bytes_eq-Decides (encoding c.tbs.subject) (encoding subject)).1 same)) others

walk_in : (bag : List CertificateElements) (subject : DerElement) → Walk bag subject
walk_in [] subject = none subject
walk_in (c ∷ bag) subject =
    decided c bag subject (bytes_eq (encoding c.tbs.subject) (encoding subject)) refl (walk_in bag c.tbs.issuer) (walk_in bag subject)

-- ---- among the contained ones

past_root : (c : CertificateElements) (bag : List CertificateElements) (subject : List ℕ) (d : CertificateElements) (test : Bool)
    → bytes_eq (encoding c.tbs.subject) subject ≡ test → IsRootCertificate c → Meets subject bag d → Meets subject (c ∷ bag) d
past_root c bag subject d true e root m =
    let has = (bytes_eq-Decides (encoding c.tbs.subject) subject).0 e in
    inl (has, inr (subst (λ (o : List ℕ). Meets o bag d) (sym (ap encoding root.1 ∙ has)) m))
past_root c bag subject d false e root m =
    inr (λ same. both_ways (bytes_eq (encoding c.tbs.subject) subject) e ((bytes_eq-Decides (encoding c.tbs.subject) subject).1 same), m)

met_kept : (c : CertificateElements) (bag others : List CertificateElements) (subject : List ℕ) (d : CertificateElements)
    → ((o : List ℕ) → Meets o others d → Meets o bag d) → Meets subject (c ∷ others) d → Meets subject (c ∷ bag) d
met_kept c bag others subject d later_met (inl (has, inl same)) = inl (has, inl same)
met_kept c bag others subject d later_met (inl (has, inr m)) = inl (has, inr (later_met (encoding c.tbs.issuer) m))
met_kept c bag others subject d later_met (inr (fails, m)) = inr (fails, later_met subject m)

met_before : (bag carried : List CertificateElements) (subject : List ℕ) (d : CertificateElements) → AreWithoutRoots bag carried → Meets subject carried d
    → Meets subject bag d
met_before [] carried subject d empty m = absurd (subst (λ (cs : List CertificateElements). Meets subject cs d) empty m)
met_before (c ∷ bag) carried subject d (inl (root, are)) m =
    past_root c bag subject d (bytes_eq (encoding c.tbs.subject) subject) refl root (met_before bag carried subject d are m)
met_before (c ∷ bag) carried subject d (inr (other, others, is, are)) m =
    met_kept c bag others subject d (λ o n. met_before bag others o d are n) (subst (λ (cs : List CertificateElements). Meets subject cs d) is m)

met_among : (bag carried : List CertificateElements) (subject : List ℕ) (d : CertificateElements) → AreCarried bag carried → Meets subject carried d
    → Meets subject bag d
met_among [] carried subject d are m = subst (λ (cs : List CertificateElements). Meets subject cs d) are m
met_among (c ∷ []) carried subject d are m = subst (λ (cs : List CertificateElements). Meets subject cs d) are m
met_among (c ∷ e ∷ bag) carried subject d are m = met_before (c ∷ e ∷ bag) carried subject d are m

asks_before : (bag carried : List CertificateElements) (signer : CertificateElements) → AreCarried bag carried → AsksForPurposes carried signer
    → AsksForPurposes bag signer
asks_before bag carried signer are asked =
    let some = walk_in carried signer.tbs.subject in
    let all = walk_in bag signer.tbs.subject in
    let places = one_walk carried signer asked.places some.places asked.walk some.walk in
    let met = some.met asked.place asked.c (subst (λ (ps : List ℕ). Contains ps asked.place) places asked.among) asked.stands in
    let at = all.meets asked.c (met_among bag carried (encoding signer.tbs.subject) asked.c are met) in
    record { places = all.places; walk = all.walk; place = at.0; among = at.1; c = asked.c; stands = at.2; purposes = asked.purposes }

-- one that may sign code among all may do so among the contained ones
pub still_for_code_signing : (bag carried : List CertificateElements) (signer : CertificateElements) → AreCarried bag carried → IsForCodeSigning bag signer
    → IsForCodeSigning carried signer
still_for_code_signing bag carried signer are may = λ asked. may (asks_before bag carried signer are asked)
