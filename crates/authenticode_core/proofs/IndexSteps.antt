-- Indices of a bag that is read one certificate at a time.
use Rattle.std.proofs.Common.{◌≡◌, ℕ, suc, ◌+◌, ◌<◌, ◌≤◌, List, [], ◌∷◌, ◌++◌, ◌⊎◌, Some, length}
use Rattle.std.proofs.Common.{append_assoc, refl, sym, ap, subst, ◌∙◌, inl, inr, arith, length-append}
use Rattle.std.proofs.lemmas.Bool.{cases_lt}
use Rattle.std.proofs.lemmas.Option.{slice_get_read, slice_get_within}
use Rattle.std.proofs.Math.Seq.{get_or-append_seam}
use Rattle.x509_types.specs.CertificateElements.{CertificateElements}
use Rattle.der_core.specs.DerElement.{DerElement}
use Rattle.authenticode_core.specs.BagCursor.{StandsIn}
use Rattle.authenticode_core.specs.CertificateBag.{IsBag}
use Rattle.authenticode_core.specs.LeftMembers.{left_members, BeginsBag}
use Rattle.authenticode_core.specs.Indices.{StandsAt, HasNoPlaceBetween, HasNoPlace}
use Rattle.authenticode_core.specs.declared.bag.Bag.{Bag}
use Rattle.authenticode_core.proofs.BagSteps.{one_bag}

pub here : (before others : List CertificateElements) (c : CertificateElements) → StandsAt (before ++ c ∷ others) (length before) c
here before others c =
    let bag = before ++ c ∷ others in
    slice_get_read bag (length bag) (length before) c refl (omega (arith, length-append before (c ∷ others))) (sym (get_or-append_seam before c others c))

-- nothing is after the last index
pub none_behind : (bag : List CertificateElements) (holds : CertificateElements → Type 0) (from place : ℕ) → HasNoPlaceBetween bag holds from place
    → length bag ≡ place → HasNoPlace bag holds from
none_behind bag holds from place none e at c later stands fits =
    none at c later (omega (arith, slice_get_within bag at c stands, e)) stands fits

-- one more index for which the rule doesn't hold
one_more : (bag : List CertificateElements) (holds : CertificateElements → Type 0) (from place : ℕ) (c : CertificateElements)
    → HasNoPlaceBetween bag holds from place → StandsAt bag place c → (holds c → ⊥)
    → (other : ℕ) (d : CertificateElements) → from ≤ other → other < suc place → StandsAt bag other d → holds d → (other < place) ⊎ (place ≤ other) → ⊥
one_more bag holds from place c none stands fails other d later before at fits (inl less) = none other d later less at fits
one_more bag holds from place c none stands fails other d later before at fits (inr more) =
    let place_is : other ≡ place = omega (arith, before, more) in
    let there : StandsAt bag place d = subst (λ (n : ℕ). StandsAt bag n d) place_is at in
    let some : Some d ≡ Some c = sym there ∙ stands in
    let same : d ≡ c = cc in
    fails (subst holds same fits)

pub none_yet : (bag : List CertificateElements) (holds : CertificateElements → Type 0) (from place : ℕ) (c : CertificateElements)
    → HasNoPlaceBetween bag holds from place → StandsAt bag place c → (holds c → ⊥) → HasNoPlaceBetween bag holds from (suc place)
none_yet bag holds from place c none stands fails other d later before at fits =
    one_more bag holds from place c none stands fails other d later before at fits (cases_lt other place)

-- ---- where a cursor is

-- the members that are left have no certificate, so the cursor is after the last
pub ended : (cursor : Bag) (members : List DerElement) (bag : List CertificateElements) → left_members cursor.members ≡ members → IsBag members []
    → StandsIn cursor bag → length bag ≡ cursor.place
ended cursor members bag e none s =
    let behind : s.behind ≡ [] = one_bag members s.behind [] (subst (λ (ms : List DerElement). IsBag ms s.behind) e s.left) none in
    omega (arith, ap length s.are, length-append s.before s.behind, ap length behind, s.placed)

-- What is at the cursor's index, and the parts of the bag around the next one.
pub record Moves (bag : List CertificateElements) (place : ℕ) (c : CertificateElements) (left : List DerElement) : Type 0 where
  pub before : List CertificateElements
  pub behind : List CertificateElements
  pub are : bag ≡ before ++ behind
  pub placed : place + 1 ≡ length before
  pub others : IsBag left behind
  pub stands : StandsAt bag place c

pub moves : (cursor : Bag) (members left : List DerElement) (c : CertificateElements) (bag : List CertificateElements) → left_members cursor.members ≡ members
    → BeginsBag members c left → StandsIn cursor bag → Moves bag cursor.place c left
moves cursor members left c bag e begins s =
    let only = begins.only s.behind (subst (λ (ms : List DerElement). IsBag ms s.behind) e s.left) in
    let others = only.0 in
    let whole : bag ≡ s.before ++ c ∷ others = s.are ∙ ap (λ (rest : List CertificateElements). s.before ++ rest) only.1 in
    record {
      before = s.before ++ c ∷ [];
      behind = others;
      are = whole ∙ sym (append_assoc s.before (c ∷ []) others);
      placed = omega (arith, s.placed, length-append s.before (c ∷ []));
      others = only.2;
      stands = subst (λ (b : List CertificateElements). StandsAt b cursor.place c) (sym whole)
          (subst (λ (n : ℕ). StandsAt (s.before ++ c ∷ others) n c) (sym s.placed) (here s.before others c));
    }
