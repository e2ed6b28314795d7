-- A bag that is read once to its end: the first wanted certificate, and the issuer walk.
use Rattle.std.proofs.Common.{◌≡◌, ◌↔◌, IsTrue, Bool, true, false, ℕ, suc, List, [], Option, Some, None, MatchOption, sym, subst, arith}
use Rattle.std.proofs.lemmas.Option.{slice_get_within}
use Rattle.std.specs.Prelude.{length}
use Rattle.der_core.specs.DerElement.{DerElement}
use Rattle.x509_types.specs.CertificateElements.{CertificateElements}
use Rattle.x509_types.specs.CertificateView.{view_elements}
use Rattle.authenticode_core.specs.Inside.Naming.{AsksNext, FindsNext}
use Rattle.authenticode_core.specs.Inside.Wanted.{IsWanted}
use Rattle.authenticode_core.specs.IssuerWalk.{IsWalkFrom}
use Rattle.authenticode_core.specs.Indices.{StandsAt, HasNoPlace, HasNoPlaceBetween, IsLeastPlace}
use Rattle.authenticode_core.specs.SigningRules.{AsksForPurposes}
use Rattle.authenticode_core.specs.WalkCursor.{LooksFrom, StepsTo}
use Rattle.authenticode_core.specs.declared.bag.issuer_walk.IssuerWalk.{IssuerWalk}
use Rattle.authenticode_core.specs.declared.bag.BagCertificate.{BagCertificate}
use Rattle.authenticode_core.specs.declared.bag.wanted.Wanted.{Wanted}
use Rattle.authenticode_core.proofs.IndexSteps.{none_behind, none_yet}
use Rattle.authenticode_core.proofs.WalkedIndices.{Walked, walked_none, walked_step, walked_all}

-- The certificate at the least index before this one for which the rule holds, or none.
abbrev pub IsFoundBefore : List CertificateElements → (CertificateElements → Type 0) → ℕ → Option BagCertificate → Type 0
IsFoundBefore bag holds place None = HasNoPlaceBetween bag holds 0 place
IsFoundBefore bag holds place (Some found) = IsLeastPlace bag holds 0 found.place (view_elements found.certificate)

-- The walk has passed some indices, and the first of these whose certificate is wanted is known.
pub record Passed (bag : List CertificateElements) (subject : DerElement) (wanted : Wanted) (walk : IssuerWalk) (found : Option BagCertificate)
    (asks : Bool) : Type 0 where
  pub walked : Walked bag subject walk asks
  pub first : IsFoundBefore bag (IsWanted wanted) walk.bag.place found

pub passed_none : (bag : List CertificateElements) (subject : DerElement) (wanted : Wanted) (walk : IssuerWalk) → LooksFrom walk bag 0 subject
    → Passed bag subject wanted walk None false
passed_none bag subject wanted walk looks =
    record { walked = walked_none bag subject walk looks; first = λ place c later before at fits. absurd (omega (arith, before, looks.place)) }

found_step : (bag : List CertificateElements) (wanted : Wanted) (from after : ℕ) (next : BagCertificate) (found found' : Option BagCertificate)
    → next.place ≡ from → after ≡ suc from → StandsAt bag from (view_elements next.certificate)
    → FindsNext wanted found next found' → IsFoundBefore bag (IsWanted wanted) from found → IsFoundBefore bag (IsWanted wanted) after found'
found_step bag wanted from after next (Some k) found' placed moved stands finds before = subst (IsFoundBefore bag (IsWanted wanted) after) (sym finds) before
found_step bag wanted from after next None None placed moved stands finds before =
    λ place c later lt at fits. none_yet bag (IsWanted wanted) 0 from (view_elements next.certificate) before stands finds place c later
    (omega (arith, lt, moved)) at fits
found_step bag wanted from after next None (Some k) placed moved stands finds before =
    subst (λ (b : BagCertificate). IsLeastPlace bag (IsWanted wanted) 0 b.place (view_elements b.certificate)) (sym finds.0) (record {
      later = omega arith;
      stands = subst (λ (n : ℕ). StandsAt bag n (view_elements next.certificate)) (sym placed) stands;
      fits = finds.1;
      least = λ place c later lt at fits. before place c later (omega (arith, lt, placed)) at fits;
    })

-- where the walk searches after the certificate
looks_behind : (bag : List CertificateElements) (walk : IssuerWalk) (from : ℕ) (subject : DerElement) (place : ℕ) (c : CertificateElements) (on_walk : Bool)
    → StepsTo walk bag from subject place c on_walk → walk.bag.place ≡ suc from
looks_behind bag walk from subject place c true s = s.goes.1.place
looks_behind bag walk from subject place c false s = s.goes.1.place

pub passed_step : (bag : List CertificateElements) (subject : DerElement) (wanted : Wanted) (walk after : IssuerWalk) (found found' : Option BagCertificate)
    (asks asks' on_walk : Bool) (next : BagCertificate)
    → ((from : ℕ) (x : DerElement) → LooksFrom walk bag from x → StepsTo after bag from x next.place (view_elements next.certificate) on_walk)
    → FindsNext wanted found next found' → AsksNext asks on_walk (view_elements next.certificate) asks' → Passed bag subject wanted walk found asks
    → Passed bag subject wanted after found' asks'
passed_step bag subject wanted walk after found found' asks asks' on_walk next steps finds asked p =
    let w = p.walked in
    let s = steps w.from w.next w.looks in
    let c = view_elements next.certificate in
    let here : walk.bag.place ≡ w.from = w.looks.place in
    let there : after.bag.place ≡ suc w.from = looks_behind bag after w.from w.next next.place c on_walk s in
    record {
      walked = walked_step bag subject walk after asks asks' on_walk c w s.stands s.goes asked;
      first = found_step bag wanted w.from after.bag.place next found found' s.placed there s.stands finds
          (subst (λ (n : ℕ). IsFoundBefore bag (IsWanted wanted) n found) here p.first);
    }

-- ---- the end

found_all : (bag : List CertificateElements) (holds : CertificateElements → Type 0) (place : ℕ) (found : Option BagCertificate) → length bag ≡ place
    → IsFoundBefore bag holds place found
    → MatchOption found (HasNoPlace bag holds 0) (λ k. IsLeastPlace bag holds 0 k.place (view_elements k.certificate))
found_all bag holds place None ended before = none_behind bag holds 0 place before ended
found_all bag holds place (Some k) ended before = before

ends : (bag : List CertificateElements) (from : ℕ) (subject : DerElement) → length bag ≡ from → IsWalkFrom bag from subject []
ends bag from subject ended = λ place c later stands fits. absurd (omega (arith, slice_get_within bag place c stands, ended, later))

pub passed_found : (bag : List CertificateElements) (subject : DerElement) (wanted : Wanted) (walk : IssuerWalk) (found : Option BagCertificate) (asks : Bool)
    → ((from : ℕ) (x : DerElement) → LooksFrom walk bag from x → length bag ≡ from)
    → Passed bag subject wanted walk found asks
    → MatchOption found (HasNoPlace bag (IsWanted wanted) 0) (λ k. IsLeastPlace bag (IsWanted wanted) 0 k.place (view_elements k.certificate))
passed_found bag subject wanted walk found asks ended p =
    let here : length bag ≡ walk.bag.place = omega (arith, ended p.walked.from p.walked.next p.walked.looks, p.walked.looks.place) in
    found_all bag (IsWanted wanted) walk.bag.place found here p.first

pub passed_asks : (bag : List CertificateElements) (signer : CertificateElements) (wanted : Wanted) (walk : IssuerWalk) (found : Option BagCertificate)
    (asks : Bool) → ((from : ℕ) (x : DerElement) → LooksFrom walk bag from x → length bag ≡ from)
    → Passed bag signer.tbs.subject wanted walk found asks → IsTrue asks ↔ AsksForPurposes bag signer
passed_asks bag signer wanted walk found asks ended p = walked_all bag signer walk asks (λ from x looks. ends bag from x (ended from x looks)) p.walked
