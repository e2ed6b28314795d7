-- The certificates that are left of an issuer walk, or of a bag, without those with a given
-- subject, one after another.
use Rattle.std.proofs.Common.{◌≡◌, ◌+◌, ℕ, zero, suc, List, [], ◌∷◌, length, Option, Some, None}
use Rattle.std.proofs.Common.{IfSome, MatchOption, inl, inr, refl, sym, ap, subst, ◌∙◌, arith}
use Rattle.std.proofs.lemmas.Option.{slice_get_within}
use Rattle.der_core.specs.DerElement.{DerElement}
use Rattle.der_core.specs.Encoding.{encoding}
use Rattle.x509_types.specs.CertificateElements.{CertificateElements}
use Rattle.x509_types.specs.CertificateView.{view_elements}
use Rattle.authenticode_core.specs.BagCursor.{StandsIn}
use Rattle.authenticode_core.specs.Excuses.{places_from}
use Rattle.authenticode_core.specs.OthersCursor.{WalksOver, GoesOver, GivesPlaces, AreLeft, IsFirstOf}
use Rattle.authenticode_core.specs.IssuerWalk.{IsWalkFrom, AreOthers}
use Rattle.authenticode_core.specs.Names.{HasSubject}
use Rattle.authenticode_core.specs.Indices.{StandsAt, IsLeastPlace}
use Rattle.authenticode_core.specs.WalkCursor.{LooksFrom}
use Rattle.authenticode_core.specs.declared.bag.issuer_walk.IssuerWalk.{IssuerWalk}
use Rattle.authenticode_core.specs.declared.bag.others.Others.{Others}
use Rattle.authenticode_core.specs.declared.bag.Bag.{Bag}
use Rattle.authenticode_core.specs.declared.bag.BagCertificate.{BagCertificate}
use Rattle.authenticode_core.proofs.WalkSteps.{least_once, same_certificate}

-- ---- an issuer walk

pub walk_steps : (walk new : IssuerWalk) (bag : List CertificateElements) (places : List ℕ) (r : Option BagCertificate)
    → ((from : ℕ) (subject : DerElement) → LooksFrom walk bag from subject
    → MatchOption r (IsWalkFrom bag from subject []) (λ next. IsLeastPlace bag (HasSubject subject) from next.place (view_elements next.certificate)
    × LooksFrom new bag (suc next.place) (view_elements next.certificate).tbs.issuer))
    → WalksOver walk bag places → MatchOption r (places ≡ [])
    (λ next. (behind : List ℕ) × IsFirstOf bag places next.place (view_elements next.certificate) behind × WalksOver new bag behind)
walk_steps walk new bag [] None step w = refl
walk_steps walk new bag (place ∷ places) None step w =
    let first = w.walks.1 in
    absurd (step w.from w.subject w.looks place w.walks.0 first.later first.stands first.fits)
walk_steps walk new bag [] (Some next) step w =
    let first = (step w.from w.subject w.looks).0 in
    absurd (w.walks next.place (view_elements next.certificate) first.later first.stands first.fits)
walk_steps walk new bag (place ∷ places) (Some next) step w =
    let c = view_elements next.certificate in
    let moved = step w.from w.subject w.looks in
    let same = least_once bag (HasSubject w.subject) w.from place next.place w.walks.0 c w.walks.1 moved.0 in (
      places,
      record { are = ap (λ (n : ℕ). n ∷ places) same.0; stands = moved.0.stands },
      record {
        from = suc next.place;
        subject = c.tbs.issuer;
        looks = moved.1;
        walks = subst (λ (n : ℕ). IsWalkFrom bag (suc n) c.tbs.issuer places) same.0
            (subst (λ (d : CertificateElements). IsWalkFrom bag (suc place) d.tbs.issuer places) (sym same.1) w.walks.2);
      },
    )

-- ---- a bag

bag_ends : (place count : ℕ) (bag : List CertificateElements) (places : List ℕ) → place + count ≡ length bag → places ≡ places_from place count
    → length bag ≡ place → places ≡ []
bag_ends place zero bag places counted are past = are
bag_ends place (suc count) bag places counted are past = absurd (omega (arith, counted, past))

bag_goes_on : (new : Bag) (bag : List CertificateElements) (places : List ℕ) (place at count : ℕ) (c : CertificateElements) → StandsIn new bag → at ≡ place
    → new.place ≡ suc at → StandsAt bag at c
    → place + count ≡ length bag → places ≡ places_from place count → (behind : List ℕ) × IsFirstOf bag places at c behind × GoesOver new bag behind
bag_goes_on new bag places place at zero c stands here next at_c counted are = absurd (omega (arith, here, counted, slice_get_within bag at c at_c))
bag_goes_on new bag places place at (suc count) c stands here next at_c counted are =
    let behind : new.place ≡ suc place = next ∙ ap suc here in (
      places_from (suc place) count,
      record { are = are ∙ ap (λ (n : ℕ). n ∷ places_from (suc place) count) (sym here); stands = at_c },
      record { stands = stands; count = count; counted = omega (arith, behind, counted); are = ap (λ (n : ℕ). places_from n count) (sym behind) },
    )

pub bag_steps : (cursor new : Bag) (bag : List CertificateElements) (places : List ℕ) (r : Option BagCertificate)
    → IfSome r (λ next. (next.place ≡ cursor.place) × (new.place ≡ suc next.place)) → (StandsIn cursor bag → StandsIn new bag)
    → (StandsIn cursor bag → MatchOption r (length bag ≡ cursor.place) (λ next. StandsAt bag next.place (view_elements next.certificate)))
    → GoesOver cursor bag places → MatchOption r (places ≡ [])
    (λ next. (behind : List ℕ) × IsFirstOf bag places next.place (view_elements next.certificate) behind × GoesOver new bag behind)
bag_steps cursor new bag places None placed stays step g = bag_ends cursor.place g.count bag places g.counted g.are (step g.stands)
bag_steps cursor new bag places (Some next) placed stays step g =
    bag_goes_on new bag places cursor.place next.place g.count (view_elements next.certificate) (stays g.stands) placed.0 placed.1 (step g.stands)
    g.counted g.are

-- ---- without those with the subject

others_along : (bag : List CertificateElements) (subject : DerElement) (given path : List ℕ) (place : ℕ) (c : CertificateElements) (behind : List ℕ)
    → IsFirstOf bag given place c behind → AreOthers bag subject given path → AreOthers bag subject (place ∷ behind) path
others_along bag subject given path place c behind first others = subst (λ (ps : List ℕ). AreOthers bag subject ps path) first.are others

passed_at : (bag : List CertificateElements) (subject : DerElement) (path : List ℕ) (place : ℕ) (c : CertificateElements) (behind : List ℕ)
    → StandsAt bag place c → HasSubject subject c → AreOthers bag subject (place ∷ behind) path → AreOthers bag subject behind path
passed_at bag subject path place c behind stands has (inl others) = others.1
passed_at bag subject path place c behind stands has (inr others) = absurd (others.0 (c, stands, has))

returned_at : (bag : List CertificateElements) (subject : DerElement) (path : List ℕ) (place : ℕ) (c : CertificateElements) (behind : List ℕ)
    → StandsAt bag place c → (HasSubject subject c → ⊥) → AreOthers bag subject (place ∷ behind) path
    → (rest : List ℕ) × (path ≡ place ∷ rest) × AreOthers bag subject behind rest
returned_at bag subject path place c behind stands fails (inl others) =
    let has = others.0 in
    absurd (fails (subst (HasSubject subject) (same_certificate bag place place c has.0 refl stands has.1) has.2))
returned_at bag subject path place c behind stands fails (inr others) = (others.1, others.2, others.3)

module _ (cursor new : Others) (bag : List CertificateElements) (same : new.subject.now ≡ cursor.subject.now) where
  -- what the source yields next
  abbrev pub Steps : (place : ℕ) (c : CertificateElements) → Type 0
  Steps place c = (places : List ℕ) → GivesPlaces cursor.source bag places
      → (behind : List ℕ) × IsFirstOf bag places place c behind × GivesPlaces new.source bag behind

  -- one with the subject is skipped
  pub passed_over : (place : ℕ) (c : CertificateElements) → Steps place c
      → ((subject : DerElement) → cursor.subject.now ≡ encoding subject → HasSubject subject c) → (places : List ℕ) → AreLeft cursor bag places
      → AreLeft new bag places
  passed_over place c steps has places left =
      let moved = steps left.given left.gives in
      record {
        subject = left.subject;
        octets = same ∙ left.octets;
        given = moved.0;
        gives = moved.2;
        others = passed_at bag left.subject places place c moved.0 moved.1.stands (has left.subject left.octets)
            (others_along bag left.subject left.given places place c moved.0 moved.1 left.others);
      }

  -- one with another subject is returned
  pub returned : (place : ℕ) (c : CertificateElements) → Steps place c
      → ((subject : DerElement) → cursor.subject.now ≡ encoding subject → HasSubject subject c → ⊥) → (places : List ℕ) → AreLeft cursor bag places
      → (behind : List ℕ) × IsFirstOf bag places place c behind × AreLeft new bag behind
  returned place c steps fails places left =
      let moved = steps left.given left.gives in
      let others = returned_at bag left.subject places place c moved.0 moved.1.stands (fails left.subject left.octets)
      (others_along bag left.subject left.given places place c moved.0 moved.1 left.others) in (
        others.0,
        record { are = others.1; stands = moved.1.stands },
        record { subject = left.subject; octets = same ∙ left.octets; given = moved.0; gives = moved.2; others = others.2 },
      )

-- none is left if the source yields none
pub ended : (cursor : Others) (bag : List CertificateElements) → ((places : List ℕ) → GivesPlaces cursor.source bag places → places ≡ []) → (places : List ℕ)
    → AreLeft cursor bag places → places ≡ []
ended cursor bag none places left = subst (λ (ps : List ℕ). AreOthers bag left.subject ps places) (none left.given left.gives) left.others
